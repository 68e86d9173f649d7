use Rattle.std.proofs.Common.{◌≡◌, ◌++◌, append_assoc, string_bytes, arith}
use Rattle.bd_gen.specs.Pipeline.{valid_latch, destination_latch, result_latch}
use Rattle.bd_gen.proofs.Stages.{both, flat-first}
use Rattle.bd_gen.proofs.generated.push_latches.Goals as goal

pub loop-i-preserved : goal.loop-i-preserved
loop-i-preserved c =
    let i = c.loop-i.i-counter in
    let valid : string_bytes c.write.new.self ≡ string_bytes c.loop-i.text ++ valid_latch i = simp append_assoc c.in_ok-write.ensures.bytes in
    let destination : string_bytes c.write-in-loop-i.new.self ≡ string_bytes c.write.new.self ++ destination_latch i = simp append_assoc c.in_ok-write-2.ensures.bytes in
    let wrote = both (string_bytes c.loop-i.text) (valid_latch i) (destination_latch i) valid destination in
    flat-first (λ i. valid_latch i ++ destination_latch i) i c.args.depth (string_bytes c.loop-i.text) _ _ (omega arith) wrote c.loop-i.invariant

pub loop-i-2-preserved : goal.loop-i-2-preserved
loop-i-2-preserved c =
    let i = c.loop-i-2.i-counter in
    let wrote : string_bytes c.write-in-loop-i-2.new.self ≡ string_bytes c.loop-i-2.text ++ result_latch i = simp append_assoc c.in_ok-write-3.ensures.bytes in
    flat-first result_latch i c.args.depth (string_bytes c.loop-i-2.text) _ _ (omega arith) wrote c.loop-i-2.invariant
