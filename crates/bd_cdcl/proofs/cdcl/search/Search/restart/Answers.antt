use Rattle.std.proofs.Common.{false, refl, subst}
use Rattle.bd_watch.specs.Trails.{LeveledTrail, IsStartFrom}
use Rattle.bd_cdcl.specs.declared.cdcl.search.Search.{Search}
use Rattle.bd_cdcl.proofs.DescentSteps.{restart_advances}
use Rattle.bd_cdcl.proofs.cdcl.search.Search.restart.Goals as goal

pub returns-in-Some-clause-advanced : goal.returns-in-Some-clause-advanced
returns-in-Some-clause-advanced c =
    let d = c.args.self.now in
    let new : Search = record { watch = c.go_back_to.new.self; analysis = d.analysis; guide = c.release.new.self; deletion = d.deletion; learned = d.learned; restarts = false } in
    restart_advances d new c.restart_place-place.result c.in-Some.start c.requires.due refl
    (subst (λ (t : LeveledTrail). IsStartFrom t.entries c.restart_place-place.result c.in-Some.start) c.trail-2.ensures c.in-Some.ensures.some) c.go_back_to.ensures
