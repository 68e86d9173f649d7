use Rattle.std.proofs.Common.{◌≡◌, ◌++◌, append_assoc, string_bytes, arith}
use Rattle.bd_gen.specs.Pipeline.{result_line}
use Rattle.bd_gen.proofs.Stages.{flat-first}
use Rattle.bd_gen.proofs.generated.push_results.Goals as goal

pub loop-i-preserved : goal.loop-i-preserved
loop-i-preserved c =
    let wrote : string_bytes c.write.new.self ≡ string_bytes c.loop-i.text ++ result_line c.loop-i.i-counter = simp append_assoc c.in_ok-write.ensures.bytes in
    flat-first result_line c.loop-i.i-counter c.args.depth (string_bytes c.loop-i.text) _ _ (omega arith) wrote c.loop-i.invariant
