use Rattle.std.proofs.Common.{◌&&◌, ◌||◌, drop}
use Rattle.std.specs.List.{list_all, list_any}
use Rattle.bd_model.specs.ExprView.{And, Or, expr_views}
use Rattle.bd_model.specs.Value.{is_true}
use Rattle.bd_terms.specs.declared.node.Node.TheVariants as node
use Rattle.bd_symbolic.specs.inner.Names.{names_view}
use Rattle.bd_symbolic.proofs.Parts.{Joined, Gathered}
use Rattle.bd_symbolic.proofs.eval.+eval.Given as goal

abbrev pub invariant-all_of-loop-part : goal.invariant-all_of-loop-part
invariant-all_of-loop-part l = Joined (λ a b. a && b) (list_all is_true) node.And And l.fn.graph l.graph (names_view l.names) (expr_views l.parts) (drop l.part-index l.part-items) l.all

abbrev pub invariant-any_of-loop-part : goal.invariant-any_of-loop-part
invariant-any_of-loop-part l = Joined (λ a b. a || b) (list_any is_true) node.Or Or l.fn.graph l.graph (names_view l.names) (expr_views l.parts) (drop l.part-index l.part-items) l.any

abbrev pub invariant-words_of-loop-part : goal.invariant-words_of-loop-part
invariant-words_of-loop-part l = Gathered l.fn.graph l.graph (names_view l.names) (expr_views l.parts) (drop l.part-index l.part-items) l.args.items
