use Rattle.std.proofs.Common.{◌≡◌, ◌==◌, ◌&&◌, ◌||◌, not, ℕ, nat_eq, take}
use Rattle.std.specs.List.{IsDistinct}
use Rattle.std.specs.Set.{is_member}
use Rattle.bd_transitive.proofs.min_degree.add_all_but.Given as goal

abbrev pub invariant-loop-other : goal.invariant-loop-other
invariant-loop-other l = record {
  distinct : IsDistinct nat_eq l.set.keys;
  added : (w : ℕ) → is_member nat_eq l.set.keys w ≡ (is_member nat_eq l.initial.set.keys w || (is_member nat_eq (take l.other-index l.all) w && not (l.one == w)));
}
