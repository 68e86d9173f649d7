use Rattle.std.proofs.Common.{◌≡◌, List, [], ℕ, drop}
use Rattle.std.specs.List.{list_any}
use Rattle.bd_case.specs.Reading.{repeats, constants}
use Rattle.bd_case.proofs.whole.distinct.Given as goal

abbrev pub invariant-loop-group : goal.invariant-loop-group
invariant-loop-group l =
    list_any (λ (g : List ℕ). repeats [] (constants l.trail.interp g)) (drop l.group-index l.group-items)
    ≡ list_any (λ (g : List ℕ). repeats [] (constants l.trail.interp g)) l.group-items
