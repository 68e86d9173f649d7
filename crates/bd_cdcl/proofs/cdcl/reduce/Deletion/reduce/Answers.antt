use Rattle.std.proofs.Common.{◌≤◌, ◌==◌, ◌++◌, ◌∷◌, [], ◌∙◌, length, ap, inr, sym, subst}
use Rattle.std.specs.List.{All}
use Rattle.std.proofs.lemmas.Bool.{false≢true}
use Rattle.std.specs.Prelude.{Result, Ok, Err, OnOk}
use Rattle.bd_lrat.specs.declared.line.Line.TheVariants.{Delete}
use Rattle.bd_watch.proofs.WatchedClauses.{all_closed}
use Rattle.std.proofs.lemmas.List.Elements.{All-weaker}
use Rattle.bd_cdcl.specs.inner.Deletions.{MayDelete}
use Rattle.bd_cdcl.proofs.CoveredDeletions.{may_delete_given, unmarked_stand}
use Rattle.bd_cdcl.proofs.cdcl.reduce.Deletion.reduce.Goals as goal

pub note-requires-clause-low : goal.note-requires-clause-low
note-requires-clause-low c =
    let w = c.args.watch.now in
    subst (λ n. All (λ id. id ≤ n) c.deref.result.now) (sym c.len.ensures.value)
    (subst (All (λ id. id ≤ length w.clauses)) (sym c.deref.ensures.value)
    (All-weaker (MayDelete w.clauses w.trail.entries) (λ id. id ≤ length w.clauses) (may_delete_given w.clauses w.trail.entries) c.in_ok-ids.ids.items c.in_ok-ids.ensures.may))

on_ok : {X E : Type 0} {P Q : Type 0} → (r : Result X E) → OnOk r P → (P → Q) → OnOk r Q
on_ok (Ok x) so next = next so
on_ok (Err e) so next = tt

pub returns-clause-ok : goal.returns-clause-ok
returns-clause-ok c =
    let w = c.args.watch.now in
    on_ok c.push.result c.push.ensures.ok
    (λ pushed. inr (record {
      ids = c.in_ok-ids.ids.items;
      some = λ none. false≢true (c.if-is_empty.ensures ∙ ap (λ n. n == 0) (sym c.deref.ensures.len ∙ ap length c.deref.ensures.value ∙ ap length none));
      stand = unmarked_stand w.clauses w.trail.entries c.args.self.now.gone.items c.args.self.now.deleted.items c.in_ok-ids.ids.items c.args.self.now.marked c.in_ok-ids.ensures.unmarked c.in_ok-ids.ensures.may;
      differ = c.in_ok-ids.ensures.differ;
      satisfied = c.in_ok-ids.ensures.may;
      closed = all_closed w.clauses w.pairs.items w.lists.items w.trail w.head c.requires.watching c.requires.propagated;
      noted = c.in_ok-extend_from_slice.ensures.items ∙ ap (λ more. c.args.self.now.deleted.items ++ more) c.deref-2.ensures.value;
      logged = pushed ∙ ap (λ n. c.args.log.now ++ Delete n c.from_vec-ids.result ∷ []) c.len-id.ensures.value ∙ ap (λ ids. c.args.log.now ++ Delete (length w.clauses) ids ∷ []) c.from_vec-ids.ensures;
    }))
