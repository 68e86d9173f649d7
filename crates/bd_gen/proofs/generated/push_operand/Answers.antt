use Rattle.std.proofs.Common.{append_assoc, arith}
use Rattle.bd_gen.proofs.Stages.{not_missing}
use Rattle.bd_gen.proofs.generated.push_operand.Goals as goal

pub returns-else-path-drop : goal.returns-else-path-drop
returns-else-path-drop c = rw (not_missing c.args.drop c.args.i (omega arith)) (simp append_assoc c.write-else-path-drop.ensures.bytes)
