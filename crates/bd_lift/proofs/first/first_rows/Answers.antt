use Rattle.std.proofs.Common.{◌≡◌, Result, Ok, Err, IfOk, List, map, sym, subst, [], ◌∷◌, length, refl, ap, ◌∙◌}
use Rattle.std.proofs.lemmas.Iterator.Adapters.{YieldsList-from_vec}
use Rattle.std.proofs.lemmas.Iterator.Consumers.{YieldsList-end}
use Rattle.bd_model.specs.declared.table.Row.{Row}
use Rattle.bd_lift.specs.inner.First.{AreEnough, entry_row}
use Rattle.bd_lift.proofs.FirstRows.{HaveSameValues-push, among-push}
use Rattle.bd_lift.proofs.first.first_rows.Goals as goal

pub loop-row-preserved : goal.loop-row-preserved
loop-row-preserved c = record {
  same = HaveSameValues-push (map entry_row c.loop-row.first.entries) c.loop-row.yielded (map entry_row c.put_first.new.first.entries) c.in-Some.row c.loop-row.invariant.same c.in_ok-put_first.ensures.same;
  among = among-push (map entry_row c.loop-row.first.entries) c.loop-row.yielded (map entry_row c.put_first.new.first.entries) c.in-Some.row c.loop-row.invariant.among c.in_ok-put_first.ensures.among;
}

map_id : {X : Type 0} → (xs : List X) → map (λ x. x) xs ≡ xs
map_id [] = refl
map_id (x ∷ xs) = ap (λ l. x ∷ l) (map_id xs)

are_enough : {E : Type 0} → (all first : List Row) (r : Result (List Row) E) → AreEnough all first → IfOk r (λ rows. rows ≡ first) → IfOk r (λ rows. AreEnough all rows)
are_enough all first (Ok rows) h is = subst (AreEnough all) (sym is) h
are_enough all first (Err e) h is = tt

pub returns-clause-enough : goal.returns-clause-enough
returns-clause-enough c =
    let given : c.into_iter-row-iterator.result.rest.items ≡ c.args.rows = c.into_iter-row-iterator.ensures.into_iter_gives.0 ∙ c.into_vec-row-items.ensures in
    let count : c.into_iter-row-iterator.result.rest.len ≡ length c.args.rows = c.into_iter-row-iterator.ensures.into_iter_gives.1 ∙ c.into_vec-row-items.result.ok.0 ∙ ap length c.into_vec-row-items.ensures in
    let all : c.loop-row.yielded ≡ c.args.rows =
    sym (map_id c.loop-row.yielded) ∙ (YieldsList-end (YieldsList-from_vec c.args.rows given count) c.loop-row.yielded c.loop-row.row-iterator c.loop-row.yielded_by c.next.result c.next.new.self c.in-None.is c.next.ensures.steps).0 in
    are_enough c.args.rows (map entry_row c.loop-row.first.entries) c.rows_of.result (subst (λ l. AreEnough l (map entry_row c.loop-row.first.entries)) all c.loop-row.invariant) c.rows_of.ensures.entries
