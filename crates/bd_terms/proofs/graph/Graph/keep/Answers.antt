-- A node that isn't there goes after the others, with its sort beside it.
use Rattle.std.proofs.Common.{◌≡◌, [], ◌∷◌, ◌++◌, ap, sym, ◌∙◌, subst, arith}
use Rattle.std.proofs.lemmas.Grind.{common_steps}
use Rattle.bd_terms.specs.Graph.{sorts, node_sort, FitsSorts, IsGraph}
use Rattle.bd_terms.specs.Graph.{KeepsUses}
use Rattle.bd_terms.specs.contracts.node.NodeEq.TheImpl.Laws.{laws-law}
use Rattle.bd_terms.proofs.Places.{IsDistinct-place}
use Rattle.bd_terms.proofs.Graphs.{IsGraph-pushed, IsKept-pushed}
use Rattle.bd_terms.proofs.graph.Graph.keep.Goals as goal
use Rattle.bd_terms.proofs.graph.Graph.keep.Goals.{then-is_new, else-is_new}

pub invariant_of-self-then-is_new : goal.invariant_of-self-then-is_new
invariant_of-self-then-is_new c =
    let e : c.insert_full.new.self.keys ≡ c.self.inside.nodes.keys ++ c.args.node ∷ [] = grind (arith, common_steps) in
    let f : c.push_reserved.new.self.items ≡ c.self.inside.sorts.items ++ c.node_sort-sort.result ∷ [] = grind (arith, common_steps) in
    IsKept-pushed c.self.inside.nodes.keys c.self.inside.sorts.items c.args.node c.node_sort-sort.result _ _
    c.self.invariant
    (subst (λ l. FitsSorts l c.args.node) (sym c.self.view_is) c.requires.fits)
    (subst (λ l. KeepsUses l c.args.node) (sym c.self.view_is) c.requires.symbols)
    (c.node_sort-sort.ensures ∙ ap (λ l. node_sort (sorts l) c.args.node) (sym c.self.view_is))
    e f (IsDistinct-place _ laws-law.refl c.insert_full.new.self.keys c.insert_full.ensures.unique)

pub invariant_of-self-else-is_new : goal.invariant_of-self-else-is_new
invariant_of-self-else-is_new c =
    let e : c.insert_full.new.self.keys ≡ c.self.inside.nodes.keys = grind (arith, common_steps) in
    let f : c.reserve.new.self.items ≡ c.self.inside.sorts.items = grind (arith, common_steps) in
    record { graph = subst IsGraph (sym e) c.self.invariant.graph; sorted = f ∙ c.self.invariant.sorted ∙ ap sorts (sym e) }

pub returns-clause-graph : goal.returns-clause-graph
returns-clause-graph c =
    elim c.if-is_new.branch [
      | then-is_new w ↦
          let e : c.insert_full.new.self.keys ≡ c.self.inside.nodes.keys ++ c.args.node ∷ [] = grind (arith, common_steps) in
          let same : c.if-is_new.self ≡ c.insert_full.new.self.keys = grind (arith, common_steps) in
          subst IsGraph (sym same) (IsGraph-pushed c.self.inside.nodes.keys c.args.node _ c.self.invariant.graph
          (subst (λ l. FitsSorts l c.args.node) (sym c.self.view_is) c.requires.fits)
          (subst (λ l. KeepsUses l c.args.node) (sym c.self.view_is) c.requires.symbols)
          e (IsDistinct-place _ laws-law.refl c.insert_full.new.self.keys c.insert_full.ensures.unique))
      | else-is_new w ↦
          let e : c.if-is_new.self ≡ c.self.inside.nodes.keys = grind (arith, common_steps) in
          subst IsGraph (sym e) c.self.invariant.graph
    ]
