use Rattle.std.proofs.Common.{◌≡◌, Some, slice_get, ap, sym, ◌∙◌, subst, arith, option_copied}
use Rattle.std.proofs.lemmas.Option.{slice_get-get_or}
use Rattle.bd_equality.specs.inner.Rows.{AreMarkedSymbols}
use Rattle.bd_equality.proofs.Passing.{AreSaid-end, AreSaid-start, AreSaid-step}
use Rattle.bd_equality.proofs.rows.marked_symbols.Goals as goal

pub loop-symbol-init : goal.loop-symbol-init
loop-symbol-init c = AreSaid-start c.args.flat.now.graph (option_copied c.args.marked) c.as_slice-symbol-items.result.now c.new-symbols.result.items c.new-symbols.ensures.items

pub loop-symbol-preserved : goal.loop-symbol-preserved
loop-symbol-preserved c =
    let items = c.as_slice-symbol-items.result.now in
    let there : slice_get items c.loop-symbol.symbol-index ≡ Some c.symbol-item.result = slice_get-get_or items c.loop-symbol.symbol-index c.symbol-item.result (omega arith) ∙ ap Some (sym c.symbol-item.is) in
    AreSaid-step c.args.flat.now.graph (option_copied c.args.marked) items c.loop-symbol.symbol-index c.loop-symbol.symbols.items c.push.new.self.items c.symbol-item.result c.is_marked_symbol.result there c.is_marked_symbol.ensures
    c.in_ok-push.ensures.items c.loop-symbol.invariant

pub returns : goal.returns
returns c =
    subst (λ l. AreMarkedSymbols c.args.flat.now.graph l (option_copied c.args.marked) c.loop-symbol.symbols.items) c.as_slice-symbol-items.ensures
    (AreSaid-end c.args.flat.now.graph (option_copied c.args.marked) c.as_slice-symbol-items.result.now c.loop-symbol.symbol-index c.loop-symbol.symbols.items (omega arith) c.loop-symbol.invariant)
