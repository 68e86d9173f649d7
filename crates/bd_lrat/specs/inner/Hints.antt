-- How hints are kept: their numbers, and the places of those for resolutions on asymmetric tautologies.
use Rattle.std.specs.Prelude.{ℕ, ◌+◌, ◌==◌, List, [], ◌∷◌, if◌then◌else◌}
use Rattle.bd_lrat.specs.declared.line.Hint.{Hint}
use Rattle.bd_lrat.specs.declared.line.Hint.TheVariants.{Unit as UnitHint, Rat}

-- the hints of those numbers, which stand from that place on; the places say which are `Rat`
abbrev pub hints_from : ℕ → List ℕ → List ℕ → List Hint
hints_from place [] rats = []
hints_from place (id ∷ ids) [] = UnitHint id ∷ hints_from (place + 1) ids []
hints_from place (id ∷ ids) (r ∷ rats) = if r == place then Rat id ∷ hints_from (place + 1) ids rats else UnitHint id ∷ hints_from (place + 1) ids (r ∷ rats)
