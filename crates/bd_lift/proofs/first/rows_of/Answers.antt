use Rattle.std.proofs.Common.{◌≡◌, append-nil, subst, sym, ap, ◌∙◌, ◌++◌, [], map}
use Rattle.std.proofs.lemmas.Map.Iter.{rest_all}
use Rattle.bd_lift.specs.Counting.{ArgumentsDiffer}
use Rattle.bd_lift.specs.inner.First.{entry_row}
use Rattle.bd_lift.proofs.FirstRows.{differ-keys}
use Rattle.bd_lift.proofs.first.rows_of.Goals as goal

pub returns-clause-differ : goal.returns-clause-differ
returns-clause-differ c =
    let none : c.loop-args.args-iterator ≡ [] = rest_all (λ p. p) c.loop-args.args-iterator _ _ c.in-None.is c.next.ensures.steps in
    let all : c.loop-args.rows.items ≡ map entry_row c.args.first.entries = sym (append-nil c.loop-args.rows.items) ∙ sym (ap (λ l. c.loop-args.rows.items ++ map entry_row l) none) ∙ c.loop-args.invariant in
    subst ArgumentsDiffer (sym (c.from_vec-2.ensures ∙ all)) (differ-keys c.args.first.entries c.len.ensures.unique)
