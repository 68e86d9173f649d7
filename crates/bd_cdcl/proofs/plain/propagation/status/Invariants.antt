use Rattle.std.proofs.Common.{◌≡◌, take}
use Rattle.std.specs.Option.{option_to_list}
use Rattle.bd_cnf.specs.Trail.{open_literals}
use Rattle.bd_watch.specs.Levels.{literals}
use Rattle.bd_cdcl.proofs.plain.propagation.status.Given as goal

abbrev pub invariant-loop-lit : goal.invariant-loop-lit
invariant-loop-lit l = open_literals (literals l.trail.entries) (take l.lit-index l.clause) ≡ option_to_list l.found
