use Rattle.std.proofs.Common.{length, ◌-◌}
use Rattle.bd_text.specs.inner.Progress.{IsReadTo, openings_of}
use Rattle.bd_text.specs.View.{nodes_of_all}
use Rattle.bd_text.proofs.read.read_trees.Given as goal

abbrev pub invariant-loop-at : goal.invariant-loop-at
invariant-loop-at l = IsReadTo l.bytes l.at (nodes_of_all l.reader.parts.items) (openings_of l.reader.open_lists.items)

abbrev pub decreases-loop-at : goal.decreases-loop-at
decreases-loop-at l = length l.bytes - l.at
