use Rattle.std.proofs.Common.{◌≡◌, ◌++◌, string_bytes}
use Rattle.std.specs.List.{flat_map}
use Rattle.bd_gen.specs.Pipeline.{stages, result_line}
use Rattle.bd_gen.proofs.generated.push_results.Given as goal

abbrev pub invariant-loop-i : goal.invariant-loop-i
invariant-loop-i l = string_bytes l.text ++ flat_map result_line (stages l.i-counter l.depth) ≡ string_bytes l.fn.text ++ flat_map result_line (stages 3 l.depth)
