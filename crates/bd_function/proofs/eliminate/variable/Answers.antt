use Rattle.std.proofs.Common.{◌≡◌, ℕ, List, sym, subst}
use Rattle.bd_model.specs.declared.design.Sort.{Sort}
use Rattle.bd_terms.specs.declared.node.Node.{Node}
use Rattle.bd_function.specs.inner.Taken.{AddsTerm}
use Rattle.bd_function.proofs.Terms.{AddsTerm-word, AddsTerm-truth, scalar-other}
use Rattle.bd_function.proofs.eliminate.variable.Goals as goal
use Rattle.bd_function.proofs.eliminate.variable.Goals.{in-Word+in_ok-id-in-Word, in_default+in_ok-id-in_default}

along : (old g g' : List Node) (var id id' : ℕ) (s s' : Sort) → g ≡ g' → id ≡ id' → s' ≡ s → AddsTerm old g' var id' s' → AddsTerm old g var id s
along old g g' var id id' s s' e f k h =
    subst (λ l. AddsTerm old l var id s) (sym e) (subst (λ i. AddsTerm old g' var i s) (sym f) (subst (AddsTerm old g' var id') k h))

pub returns : goal.returns
returns c = elim c.match-sort.branch [
  | in-Word+in_ok-id-in-Word w ↦
      along c.args.graph.now _ _ c.args.var _ _ c.args.sort _ w.graph-is w.id-is (sym w.in-Word.is)
      (AddsTerm-word c.args.graph.now w.mk_app.new.self c.args.var w.in_ok-id-in-Word.id
      w.in_ok-id-in-Word.ensures.extends w.in_ok-id-in-Word.ensures.uses w.in_ok-id-in-Word.ensures.sorted w.in_ok-id-in-Word.ensures.denotes w.in_ok-id-in-Word.ensures.simplified w.in_ok-id-in-Word.ensures.graph)
  | in_default+in_ok-id-in_default w ↦
      along c.args.graph.now _ _ c.args.var _ _ c.args.sort _ w.graph-is w.id-is (scalar-other c.args.sort c.requires.sort w.in_default.not-Word)
      (AddsTerm-truth c.args.graph.now w.mk_pred.new.self c.args.var w.in_ok-id-in_default.id
      w.in_ok-id-in_default.ensures.extends w.in_ok-id-in_default.ensures.uses w.in_ok-id-in_default.ensures.sorted w.in_ok-id-in_default.ensures.denotes w.in_ok-id-in_default.ensures.simplified w.in_ok-id-in_default.ensures.graph)
]
