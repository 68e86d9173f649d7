use Rattle.std.proofs.Common.{map}
use Rattle.bd_model.specs.DesignView.{design_view, local_view}
use Rattle.bd_model.specs.ExprView.{expr_views}
use Rattle.bd_model.specs.Lawful.{context_of}
use Rattle.bd_about.proofs.Earlier.{use_earlier}
use Rattle.bd_about.proofs.Marking.{marked_list}
use Rattle.bd_about.proofs.unread.in_spec.Goals as goal

pub add_lets-requires : goal.add_lets-requires
add_lets-requires c = rw c.as_slice.ensures (use_earlier (context_of (design_view c.args.design.now) (design_view c.args.design.now).spec) (map local_view c.args.design.now.spec.locals) c.requires.spec.locals)

pub returns : goal.returns
returns c =
    (rw c.as_slice.ensures at c.in_ok-add_lets.ensures).each _
    (marked_list c.new-marks.result c.add_exprs.new.marks (expr_views c.args.design.now.spec.nexts) c.new-marks.ensures c.in_ok-add_exprs.ensures)
