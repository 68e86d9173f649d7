use Rattle.std.proofs.Common.{◌≤◌, map, length}
use Rattle.bd_model.specs.DesignView.{local_view}
use Rattle.bd_about.proofs.Passing.{Passed}
use Rattle.bd_about.proofs.unread.add_lets.Given as goal

abbrev pub invariant-loop-i : goal.invariant-loop-i
invariant-loop-i l = (l.i ≤ length l.lets) × Passed (map local_view l.lets) l.initial.marks l.marks l.i

abbrev pub decreases-loop-i : goal.decreases-loop-i
decreases-loop-i l = l.i
