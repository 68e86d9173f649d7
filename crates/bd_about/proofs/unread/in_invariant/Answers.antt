use Rattle.std.proofs.Common.{map}
use Rattle.bd_model.specs.DesignView.{design_view, local_view}
use Rattle.bd_model.specs.ExprView.{expr_view}
use Rattle.bd_model.specs.Lawful.{inv_context}
use Rattle.bd_about.proofs.Earlier.{use_earlier}
use Rattle.bd_about.proofs.Marking.{marked_one}
use Rattle.bd_about.proofs.unread.in_invariant.Goals as goal

pub add_lets-requires : goal.add_lets-requires
add_lets-requires c = rw c.as_slice.ensures (use_earlier (inv_context (design_view c.args.design.now)) (map local_view c.args.design.now.inv_locals) c.requires.inv_locals)

pub returns : goal.returns
returns c =
    (rw c.as_slice.ensures at c.in_ok-add_lets.ensures).each _
    (marked_one c.new-marks.result c.add_expr.new.marks (expr_view c.args.design.now.inv) c.new-marks.ensures c.in_ok-add_expr.ensures)
