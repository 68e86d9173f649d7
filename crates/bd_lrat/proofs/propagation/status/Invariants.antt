use Rattle.std.proofs.Common.{◌≡◌, take}
use Rattle.std.specs.Option.{option_to_list}
use Rattle.bd_cnf.specs.Trail.{open_literals}
use Rattle.bd_lrat.proofs.propagation.status.Given as goal

abbrev pub invariant-loop-packed : goal.invariant-loop-packed
invariant-loop-packed l = open_literals l.trail.literals (take l.packed-index l.clause) ≡ option_to_list l.found
