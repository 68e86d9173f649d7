use Rattle.std.proofs.Common.{string_bytes, arith}
use Rattle.bd_gen.specs.Pipeline.{operand_line}
use Rattle.bd_gen.proofs.Stages.{flat-last}
use Rattle.bd_gen.proofs.generated.push_operands.Goals as goal

pub loop-i-preserved : goal.loop-i-preserved
loop-i-preserved c = flat-last (operand_line c.args.drop) 2 c.loop-i.i (string_bytes c.loop-i.text) (string_bytes c.push_operand.new.text) _ (omega arith) c.in_ok-push_operand.ensures c.loop-i.invariant
