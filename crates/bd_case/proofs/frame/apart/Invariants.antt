use Rattle.std.proofs.Common.{◌≡◌, ℕ, drop}
use Rattle.std.specs.Prelude.{◌||◌, nat_eq}
use Rattle.indexmap.specs.IndexSet.{contains}
use Rattle.bd_case.specs.Kinds.{is_apart}
use Rattle.bd_case.proofs.frame.apart.Given as goal

abbrev pub invariant-loop-group : goal.invariant-loop-group
invariant-loop-group l = (f : ℕ) → (contains nat_eq l.apart f || is_apart (drop l.group-index l.group-items) f) ≡ is_apart l.group-items f
