use Rattle.std.proofs.Common.{string_bytes}
use Rattle.std.proofs.lemmas.Result.{on_ok_weaker}
use Rattle.bd_gen.specs.Pipeline.{opening, latch_lines}
use Rattle.bd_gen.proofs.Stages.{both}
use Rattle.bd_gen.proofs.generated.push_declarations.Goals as goal

pub returns : goal.returns
returns c = on_ok_weaker c.push_latches.result (both (string_bytes c.args.text.now) opening (latch_lines c.args.depth) c.in_ok-push_str.ensures.bytes) c.push_latches.ensures
