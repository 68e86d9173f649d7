use Rattle.std.proofs.Common.{arith, sym}
use Rattle.bd_cnf.proofs.Opens.{two_open}
use Rattle.bd_watch.specs.Levels.{literals}
use Rattle.bd_cdcl.proofs.plain.propagation.status.Goals as goal

pub returns-then-is_some : goal.returns-then-is_some
returns-then-is_some c =
    two_open (literals c.args.trail.now.entries) c.args.clause.now c.loop-lit.lit-index c.lit-item.result c.loop-lit.found (omega arith) c.lit-item.is (sym c.if-is_false.ensures) c.loop-lit.invariant (sym c.if-is_some.ensures)
