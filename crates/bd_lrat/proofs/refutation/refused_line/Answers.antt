use Rattle.std.proofs.Common.{◌+◌, drop, ap, sym, ◌∙◌, arith}
use Rattle.bd_lrat.specs.Log.{refused_from}
use Rattle.bd_lrat.proofs.AcceptedLogs.{accepted_step}
use Rattle.bd_lrat.proofs.refutation.refused_line.Goals as goal

pub loop-index-preserved : goal.loop-index-preserved
loop-index-preserved c =
    let lines = c.as_slice-line-items.result.now in
    c.loop-index.invariant
    ∙ accepted_step (c.loop-index.index + 1) c.loop-index.checker lines c.loop-index.index c.line-item.result (omega arith) c.line-item.is c.in-Ok.ensures.accepted
    ∙ ap (λ d. refused_from (c.loop-index.index + 1 + 1) d (drop (c.loop-index.index + 1) lines)) (sym c.in-Ok.ensures.ok)
