-- The views of each form and of lists, as rules.
use Rattle.bd_model.proofs.Views.{expr_views-items}
use Rattle.bd_symbolic.proofs.Leaves.{expr_view-Bool, expr_view-Entry, expr_view-Input, expr_view-Local, expr_view-Not, expr_view-And, expr_view-Or, expr_view-Implies, expr_view-Iff, expr_view-Equal, expr_view-Ite, expr_view-Read, expr_view-Write, expr_view-Apply}

pub ruleset forms = (expr_view-Bool, expr_view-Entry, expr_view-Input, expr_view-Local, expr_view-Not, expr_view-And, expr_view-Or, expr_view-Implies, expr_view-Iff, expr_view-Equal, expr_view-Ite, expr_view-Read, expr_view-Write, expr_view-Apply, expr_views-items)
