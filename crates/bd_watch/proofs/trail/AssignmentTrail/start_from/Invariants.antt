use Rattle.std.proofs.Common.{ℕ, ◌<◌, ◌≤◌, length, get_or}
use Rattle.bd_watch.proofs.trail.AssignmentTrail.start_from.Given as goal

abbrev pub invariant-loop-count : goal.invariant-loop-count
invariant-loop-count l = record {
  most : l.count ≤ length l.self-inside.starts.items;
  after : (i : ℕ) → l.count ≤ i → i < length l.self-inside.starts.items → l.place ≤ get_or l.self-inside.starts.items i 0;
}

abbrev pub decreases-loop-count : goal.decreases-loop-count
decreases-loop-count l = l.count
