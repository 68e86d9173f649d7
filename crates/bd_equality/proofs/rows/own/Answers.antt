use Rattle.std.proofs.Common.{false, sym, ◌∙◌, subst, ap}
use Rattle.std.proofs.lemmas.Option.{same_Some}
use Rattle.std.specs.Option.{unwrap_or}
use Rattle.bd_equality.specs.inner.Rows.{IsTail}
use Rattle.bd_equality.specs.inner.Split.{StandBefore}
use Rattle.bd_equality.proofs.Passing.{lent, said_at}
use Rattle.bd_equality.proofs.Rowing.{tail_own}
use Rattle.bd_equality.proofs.rows.own.Goals as goal

pub returns-then-are_before : goal.returns-then-are_before
returns-then-are_before c = λ marked symbols tail e.
    subst (λ t. IsTail c.args.flat.now.graph c.args.flat.now.syms marked t c.args.id) (same_Some _ tail e)
    (tail_own c.args.flat.now.graph c.args.flat.now.syms marked c.args.symbols.now c.args.place c.args.id c.in_ok-row.row.now symbols
    (said_at c.args.symbols.now c.args.place.symbol
    (ap (λ o. unwrap_or o false) (lent _ c.args.symbols.now c.args.place.symbol c.get.result c.get.ensures.lookup.1 c.get.ensures.lookup.3 ∙ sym c.copied.ensures) ∙ sym c.unwrap_or.ensures ∙ c.if-unwrap_or.true)) (sym c.in_ok-row.ensures) (c.is_variable.ensures.leaf c.if-is_variable.true)
    (subst (λ l. StandBefore l c.args.id) c.as_slice.ensures (c.are_before.ensures c.if-are_before.true)))
