-- A node more has its value.
use Rattle.std.proofs.Common.{◌≡◌, ◌++◌, ◌∷◌, [], map, slice_get, Some, ap, sym, ◌∙◌}
use Rattle.bd_function.specs.Values.{scalar_of}
use Rattle.bd_function.specs.inner.Scalars.{as_denoted, node_scalar}
use Rattle.bd_function.proofs.Evaluating.{IsFlat-plain, evaluated-more}
use Rattle.bd_function.proofs.symbol_tables.scalars.Goals as goal

pub loop-index-preserved : goal.loop-index-preserved
loop-index-preserved c =
    let f = c.args.flat.now in
    let v = scalar_of c.args.values.now in
    let done = c.loop-index.done.items in
    let node = c.node.result.now in
    let at : slice_get f.graph c.loop-index.index ≡ Some node = ap (slice_get f.graph) (sym c.id.ensures) ∙ c.node.ensures.node in
    let pushed : c.push.new.self.items ≡ done ++ node_scalar v done node ∷ [] =
    c.in_ok-push.ensures.items ∙ ap (λ x. done ++ x ∷ []) (c.evaluate-scalar.ensures ∙ ap (λ l. node_scalar v l node) c.deref.ensures.value) in
    ap (map as_denoted) pushed
    ∙ evaluated-more v f.graph c.loop-index.index node done at (IsFlat-plain f.graph f.root f.syms c.node.ensures.graph f.flat c.loop-index.index node at) c.loop-index.invariant
