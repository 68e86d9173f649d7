use Rattle.bd_walk.proofs.Walking.{IsWalking, weight_all}
use Rattle.bd_walk.proofs.depth_first.walk.Given as goal

abbrev pub invariant-loop-visit : goal.invariant-loop-visit
invariant-loop-visit l = IsWalking l.graph l.fn.root l.is_finished.items l.finished.items l.visits.items

abbrev pub decreases-loop-visit : goal.decreases-loop-visit
decreases-loop-visit l = weight_all l.graph l.visits.items
