use Rattle.std.proofs.Common.{◌≡◌, ℕ, drop}
use Rattle.std.specs.Prelude.{◌||◌, nat_eq}
use Rattle.std.specs.List.{list_any}
use Rattle.indexmap.specs.IndexSet.{contains}
use Rattle.bd_case.proofs.frame.put_group.Given as goal

abbrev pub invariant-loop-constant : goal.invariant-loop-constant
invariant-loop-constant l = (f : ℕ) →
    (contains nat_eq l.apart f || list_any (nat_eq f) (drop l.constant-index l.constant-items))
    ≡ (contains nat_eq l.initial.apart f || list_any (nat_eq f) l.constant-items)
