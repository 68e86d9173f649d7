use Rattle.std.proofs.Common.{◌≡◌, ◌<◌, None, Some, get_or, length, ap, sym, ◌∙◌, subst}
use Rattle.std.proofs.lemmas.List.{get_or_default}
use Rattle.std.proofs.lemmas.Option.{same_Some}
use Rattle.bd_equality.specs.inner.Rows.{IsRowAt}
use Rattle.bd_equality.proofs.Rowing.{row_of_tail}
use Rattle.bd_equality.proofs.rows.RowWords.row.Goals as goal

pub returns-then-tail-eq0 : goal.returns-then-tail-eq0
returns-then-tail-eq0 c = λ nodes syms marked tails place e.
    let xs = c.deref.result.now in
    let i = c.index.result in
    let lt : i < length xs = c.in-Some-Some.ensures.lookup.3.0 in
    let is : get_or c.args.self.now.tails.items c.args.id None ≡ Some c.in-Some-Some.tail =
    ap (λ l. get_or l c.args.id None) (sym c.deref.ensures.value) ∙ ap (λ n. get_or xs n None) (sym c.index.ensures) ∙ get_or_default xs i None c.in-Some-Some.field-0.now lt
    ∙ sym c.in-Some-Some.ensures.lookup.1 ∙ c.in-Some-Some.field-0-is in
    subst (λ p. IsRowAt nodes syms marked p c.args.id) (same_Some _ place e) (row_of_tail nodes syms marked c.in-Some-Some.tail c.args.id c.if-tail-eq0.true (tails.each c.args.id c.in-Some-Some.tail is))
