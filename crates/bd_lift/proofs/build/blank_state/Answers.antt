use Rattle.std.proofs.Common.{◌≡◌, ◌++◌, ◌∷◌, [], slice_get, Some, ap, sym, ◌∙◌, arith}
use Rattle.std.proofs.lemmas.Option.{slice_get-get_or}
use Rattle.bd_model.specs.Value.{no_table}
use Rattle.bd_model.specs.declared.design.Entry as entry
use Rattle.bd_lift.specs.inner.Built.{entry_value}
use Rattle.bd_lift.proofs.Numbered.{numbered-take}
use Rattle.bd_lift.proofs.build.blank_state.Goals as goal

pub loop-entry-preserved : goal.loop-entry-preserved
loop-entry-preserved c =
    let xs = c.args.entries.now in
    let i = c.loop-entry.entry-index in
    let x = c.entry-item.result in
    let at : slice_get xs i ≡ Some x = slice_get-get_or xs i x (omega arith) ∙ ap Some (sym c.entry-item.is) in
    c.in_ok-push.ensures.items
    ∙ (λ n. c.loop-entry.invariant n ++ (c.in_ok-value.ensures ∙ ap (entry_value x.sort) c.blank_table.ensures) n ∷ [])
    ∙ sym (numbered-take (λ k (z : entry.Entry). entry_value z.sort no_table) xs i x at)
