use Rattle.std.proofs.Common.{◌≡◌, ◌+◌, ◌++◌, ◌∷◌, [], List, slice_get, Some, ap, sym, ◌∙◌, subst}
use Rattle.bd_model.specs.declared.table.Scalar.{Scalar}
use Rattle.bd_function.specs.Tables.{world_of_tables}
use Rattle.bd_diverse.specs.inner.Valued.{IsValued, scalar_in}
use Rattle.bd_diverse.proofs.Valuing.{IsValued-more}
use Rattle.bd_diverse.proofs.scalars.scalars.Goals as goal

pub loop-index-preserved : goal.loop-index-preserved
loop-index-preserved c =
    let g = c.args.graph.now in
    let w = world_of_tables c.args.tables.now in
    let done = c.loop-index.done.items in
    let node = c.node.result.now in
    let at : slice_get g c.loop-index.index ≡ Some node = ap (slice_get g) (sym c.id.ensures) ∙ c.node.ensures.node in
    let pushed : c.push.new.self.items ≡ done ++ scalar_in w done node ∷ [] =
    c.in_ok-push.ensures.items ∙ ap (λ x. done ++ x ∷ []) (c.in_ok-scalar.ensures ∙ ap (λ (l : List Scalar). scalar_in w l node) c.deref.ensures.value) in
    subst (λ (l : List Scalar). IsValued w g (c.loop-index.index + 1) l) (sym pushed) (IsValued-more w g c.node.ensures.graph c.loop-index.index node done c.loop-index.invariant at)
