use Rattle.std.proofs.Common.{sym, ap, ◌∙◌, subst}
use Rattle.bd_cnf.specs.Literal.{Literal}
use Rattle.bd_watch.specs.Levels.{Assigned, literals}
use Rattle.bd_lrat.specs.Log.{HaveDifferentVariables}
use Rattle.bd_watch.proofs.Entries.{makes_true_next}
use Rattle.bd_watch.proofs.trail.AssignmentTrail.assignment.Goals as goal

pub loop-entry-preserved : goal.loop-entry-preserved
loop-entry-preserved c =
    let xs = c.deref-entry-items.result.now in
    makes_true_next c.loop-entry.assignment c.set.new.self xs c.loop-entry.entry-index c.entry-item.result c.var.result c.is_positive.result c.loop-entry-test.true c.entry-item.is
    (subst (λ es. HaveDifferentVariables (literals es)) (sym c.deref-entry-items.ensures.value) c.self.invariant.different)
    c.loop-entry.invariant c.in_ok-set.ensures.ok
    (c.var.ensures.value ∙ ap (λ (m : Literal). m.var) c.lit-lit.ensures ∙ ap (λ (e : Assigned). e.literal.var) c.entry.view_is)
    (c.is_positive.ensures ∙ ap (λ (m : Literal). m.positive) c.lit-lit.ensures ∙ ap (λ (e : Assigned). e.literal.positive) c.entry.view_is)
