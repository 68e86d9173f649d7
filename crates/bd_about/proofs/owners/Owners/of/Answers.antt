use Rattle.std.proofs.Common.{◌≡◌, ◌∙◌, None, ap, sym}
use Rattle.std.proofs.lemmas.List.{drop_all}
use Rattle.bd_function.specs.Tables.{is_symbol}
use Rattle.bd_about.specs.inner.Owned.{held, is_found, last_symbol}
use Rattle.bd_about.proofs.Owned.{last_decides, one-symbol}
use Rattle.bd_about.proofs.owners.Owners.of.Goals as goal

pub returns : goal.returns
returns c = λ symbol x.
    let f = c.args.flat.now in
    let l = c.loop-symbol in
    let items = c.as_slice-symbol-items.result.now in
    let done : held l.owners x ≡ last_symbol x None items =
    sym (ap (last_symbol x (held l.owners x)) (drop_all l.symbol-index items c.loop-symbol-test.false)) ∙ l.invariant x in
    ap (is_found (λ t. is_symbol t symbol)) (done ∙ ap (last_symbol x None) c.as_slice-symbol-items.ensures)
    ∙ last_decides _ _ (λ t. is_symbol t symbol) f.syms (one-symbol f.graph f.root f.syms f.flat x)
