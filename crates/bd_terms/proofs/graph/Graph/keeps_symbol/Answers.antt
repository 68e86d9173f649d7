-- The nodes are gone through in turn.
use Rattle.std.proofs.Common.{◌≡◌, ◌∷◌, ◌++◌, [], length, slice_get, take, Some, refl, ap, sym, ◌∙◌, subst, true≢false}
use Rattle.std.proofs.lemmas.List.{take_more}
use Rattle.std.proofs.lemmas.Option.{slice_get_read}
use Rattle.bd_terms.specs.Graph.{KeepsSymbol}
use Rattle.bd_terms.proofs.Symbols.{KeepsSymbol-get, KeepsSymbol-push}
use Rattle.bd_terms.proofs.graph.Graph.keeps_symbol.Goals as goal

pub returns-then-not-keeps_symbol : goal.returns-then-not-keeps_symbol
returns-then-not-keeps_symbol c =
    let xs = c.as_slice-node-items.result.now in
    let there : slice_get xs c.loop-node.node-index ≡ Some c.node-item.result = slice_get_read xs (length xs) c.loop-node.node-index c.node-item.result refl c.loop-node-test.true c.node-item.is in (
      λ h. absurd (true≢false (sym h)),
      λ k. c.if-not-keeps_symbol.ensures.1 (KeepsSymbol-get c.args.self.now c.args.sym c.args.arity c.args.sort k c.loop-node.node-index c.node-item.result
          (subst (λ l. slice_get l c.loop-node.node-index ≡ Some c.node-item.result) (c.as_slice-node-items.ensures.keys ∙ c.self.view_is) there)),
    )

pub loop-node-preserved : goal.loop-node-preserved
loop-node-preserved c =
    let xs = c.as_slice-node-items.result.now in
    let more = take_more xs c.loop-node.node-index c.node-item.result c.loop-node-test.true ∙ ap (λ x. take c.loop-node.node-index xs ++ x ∷ []) (sym c.node-item.is) in
    subst (λ l. KeepsSymbol l c.args.sym c.args.arity c.args.sort) (sym more)
    (KeepsSymbol-push (take c.loop-node.node-index xs) c.args.sym c.args.arity c.args.sort c.node-item.result c.loop-node.invariant (c.if-not-keeps_symbol.ensures.0 refl))
