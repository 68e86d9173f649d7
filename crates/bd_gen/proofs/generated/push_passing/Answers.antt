use Rattle.std.proofs.Common.{◌≡◌, ◌++◌, append_assoc, string_bytes, arith}
use Rattle.bd_gen.specs.Pipeline.{next_valid, next_destination, next_result}
use Rattle.bd_gen.proofs.Stages.{both, flat-first}
use Rattle.bd_gen.proofs.generated.push_passing.Goals as goal

pub loop-i-preserved : goal.loop-i-preserved
loop-i-preserved c =
    let i = c.loop-i.i-counter in
    let text = string_bytes c.loop-i.text in
    let valid : string_bytes c.write.new.self ≡ text ++ next_valid i = simp append_assoc c.in_ok-write.ensures.bytes in
    let destination : string_bytes c.write-in-loop-i.new.self ≡ string_bytes c.write.new.self ++ next_destination i = simp append_assoc c.in_ok-write-2.ensures.bytes in
    let value : string_bytes c.write-in-loop-i-2.new.self ≡ string_bytes c.write-in-loop-i.new.self ++ next_result i = simp append_assoc c.in_ok-write-3.ensures.bytes in
    let wrote = both text (next_valid i ++ next_destination i) (next_result i) (both text (next_valid i) (next_destination i) valid destination) value in
    flat-first (λ i. next_valid i ++ next_destination i ++ next_result i) i c.args.depth text _ _ (omega arith) wrote c.loop-i.invariant
