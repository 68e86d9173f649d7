use Rattle.std.proofs.lemmas.List.Elements.{All-push}
use Rattle.bd_picture.specs.Cells.{IsStepsRow}
use Rattle.bd_picture.proofs.steps.rows.Goals as goal

pub loop-line-preserved : goal.loop-line-preserved
loop-line-preserved c =
    rw c.in_ok-push.ensures.items (All-push (IsStepsRow c.args.view.now.diagram.now c.args.heads.now) _ _ c.loop-line.invariant c.in_ok-row.ensures)
