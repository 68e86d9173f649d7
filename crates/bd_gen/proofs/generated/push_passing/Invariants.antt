use Rattle.std.proofs.Common.{◌≡◌, ◌++◌, string_bytes}
use Rattle.std.specs.List.{flat_map}
use Rattle.bd_gen.specs.Pipeline.{stages, next_valid, next_destination, next_result, passing_lines}
use Rattle.bd_gen.proofs.generated.push_passing.Given as goal

abbrev pub invariant-loop-i : goal.invariant-loop-i
invariant-loop-i l =
    string_bytes l.text ++ flat_map (λ i. next_valid i ++ next_destination i ++ next_result i) (stages l.i-counter l.depth)
    ≡ string_bytes l.fn.text ++ passing_lines l.depth
