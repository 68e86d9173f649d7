use Rattle.std.proofs.Common.{◌≡◌, ◌++◌, string_bytes}
use Rattle.std.specs.List.{flat_map}
use Rattle.bd_gen.specs.Pipeline.{stages, valid_latch, destination_latch, result_latch, latch_lines}
use Rattle.bd_gen.proofs.generated.push_latches.Given as goal

abbrev pub invariant-loop-i : goal.invariant-loop-i
invariant-loop-i l =
    string_bytes l.text ++ flat_map (λ i. valid_latch i ++ destination_latch i) (stages l.i-counter l.depth)
    ≡ string_bytes l.fn.text ++ flat_map (λ i. valid_latch i ++ destination_latch i) (stages 2 l.depth)

abbrev pub invariant-loop-i-2 : goal.invariant-loop-i-2
invariant-loop-i-2 l = string_bytes l.text ++ flat_map result_latch (stages l.i-counter l.depth) ≡ string_bytes l.fn.text ++ latch_lines l.depth
