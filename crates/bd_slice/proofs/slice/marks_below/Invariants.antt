use Rattle.bd_slice.proofs.slice.marks_below.Given as goal

abbrev pub decreases-loop-left : goal.decreases-loop-left
decreases-loop-left l = l.left
