use Rattle.std.proofs.Common.{map}
use Rattle.bd_model.specs.DesignView.{ExactView, PortView, exact_view, port_view}
use Rattle.bd_model.specs.ExprView.{Entry, expr_views}
use Rattle.bd_about.proofs.Marking.{marked_roots}
use Rattle.bd_about.proofs.unread.pipe_roots.Goals as goal

pub returns : goal.returns
returns c =
    marked_roots c.new-marks.result c.add_exprs.new.marks c.add_ports.new.marks c.add_exacts.new.marks c.add_entries.new.marks (expr_views c.args.design.now.pipe.nexts)
    (map (λ (p : PortView). p.idle) (map port_view c.args.design.now.pipe.ports)) (map (λ (e : ExactView). e.when) (map exact_view c.args.design.now.exact)) (map Entry c.args.design.now.visible)
    c.new-marks.ensures c.in_ok-add_exprs.ensures (rw c.as_slice.ensures at c.in_ok-add_ports.ensures) (rw c.as_slice-2.ensures at c.in_ok-add_exacts.ensures) (rw c.as_slice-3.ensures at c.in_ok-add_entries.ensures)
