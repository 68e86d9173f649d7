use Rattle.std.proofs.Common.{[], map}
use Rattle.bd_model.specs.DesignView.{design_view, local_view}
use Rattle.bd_model.specs.ExprView.{expr_views, list_of_views}
use Rattle.bd_model.specs.Lawful.{entry_sorts}
use Rattle.bd_goal.proofs.Named.{Gathers}
use Rattle.bd_goal.proofs.abstracted.given.Given as goal

abbrev pub invariant-loop-part : goal.invariant-loop-part
invariant-loop-part l =
    Gathers (design_view l.design) [] l.fn.graph l.graph l.alone (map local_view l.fn.lets) l.lets-inside.items.items (entry_sorts (design_view l.design).spec) (list_of_views (expr_views l.parts)) l.part-index l.entries.items
