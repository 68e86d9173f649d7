use Rattle.std.proofs.Common.{◌≡◌, get_or, false}
use Rattle.std.specs.Prelude.{◌||◌}
use Rattle.bd_about.specs.inner.Marking.{unset_below}
use Rattle.bd_about.proofs.unread.unset.Given as goal

abbrev pub invariant-loop-i : goal.invariant-loop-i
invariant-loop-i l = l.places ≡ unset_below (λ i. (get_or l.first i false || get_or l.second i false) || get_or l.third i false) l.i
