use Rattle.std.proofs.Common.{◌≡◌, ◌++◌, ◌∷◌, [], slice_get, Some, ap, sym, ◌∙◌, arith, length}
use Rattle.std.proofs.lemmas.Option.{slice_get-get_or}
use Rattle.bd_model.specs.Value.{no_table}
use Rattle.bd_model.specs.declared.design.Symbol.{Symbol}
use Rattle.bd_lift.specs.inner.Built.{function_table}
use Rattle.bd_lift.proofs.Numbered.{numbered-take}
use Rattle.bd_lift.proofs.build.blank_interp.Goals as goal

pub loop-place-preserved : goal.loop-place-preserved
loop-place-preserved c =
    let xs = c.args.symbols.now in
    let i = c.loop-place.place in
    let x = c.index-symbols-place.result in
    let at : slice_get xs i ≡ Some x = slice_get-get_or xs i x (omega arith) ∙ ap Some (sym c.index-symbols-place.is) in
    c.in_ok-push.ensures.items
    ∙ (λ n. c.loop-place.invariant n ++ (c.in_ok-table.ensures ∙ ap (function_table (length c.args.vertices.now) i x) c.blank_table.ensures) n ∷ [])
    ∙ sym (numbered-take (λ k (z : Symbol). function_table (length c.args.vertices.now) k z no_table) xs i x at)
