use Rattle.std.proofs.Common.{map, drop}
use Rattle.bd_model.specs.DesignView.{design_view}
use Rattle.bd_model.specs.ExprView.{expr_view, expr_views, list_of_views}
use Rattle.bd_symbolic.specs.Symbolic.{terms_of}
use Rattle.bd_symbolic.proofs.Gathering.{ExprsDone}
use Rattle.bd_symbolic.proofs.cycle.next_terms.Given as goal

abbrev pub invariant-loop-next : goal.invariant-loop-next
invariant-loop-next l = ExprsDone l.fn.graph l.graph (terms_of (design_view l.design) l.state l.lets) (list_of_views (expr_views l.nexts)) (map expr_view (drop l.next-index l.next-items)) l.entries
