use Rattle.bd_cdcl.proofs.cdcl.reduce.is_satisfied.Given as goal

abbrev pub invariant-loop-packed : goal.invariant-loop-packed
invariant-loop-packed l = Unit {0}
