use Rattle.std.proofs.Common.{◌++◌, ap, ◌∙◌}
use Rattle.bd_watch.specs.Levels.{decisions}
use Rattle.bd_watch.proofs.trail.AssignmentTrail.go_back.Goals as goal

pub returns-clause-level_zero : goal.returns-clause-level_zero
returns-clause-level_zero c =
    let inv = c.loop-last.invariant in
    ap decisions (inv.whole ∙ ap (λ es. es ++ inv.rest) c.in_default.ensures.none) ∙ inv.implied
