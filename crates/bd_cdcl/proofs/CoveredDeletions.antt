-- What stands covers the clauses that were deleted: the reasons of level 0 stand, so propagation from nothing makes its literals true without them.
use Rattle.std.proofs.Common.{true≢false, get_or, ◌≢◌, ◌≡◌, ℕ, ◌+◌, ◌<◌, ◌≤◌, Bool, true, false, cond, List, [], ◌∷◌, ◌++◌, Option, None, Some, IfSome, length, take, drop, refl, sym, ap, ◌∙◌, subst, inr, arith, is_some}
use Rattle.std.specs.Prelude.{IsSome, IsSomeAnd}
use Rattle.std.specs.List.{All}
use Rattle.std.specs.Ordering.{nat_cmp, eq_by_cmp}
use Rattle.std.specs.Cmp.{nat_cmp_total}
use Rattle.std.specs.FinMap.{get, insert, remove, get-insert, get-remove, same_map, nat_cmp-IsAntisymmetric}
use Rattle.std.proofs.lemmas.Bool.{eqb-true, ne_eqb}
use Rattle.std.proofs.lemmas.List.{take-append-drop, get_or-take, length-take-le}
use Rattle.std.proofs.lemmas.List.Elements.{All-head, All-tail, All-weaker}
use Rattle.bd_cnf.specs.Literal.{Literal, has_literal}
use Rattle.bd_cnf.specs.Problem.{problem}
use Rattle.bd_cnf.specs.Standing.{Standing}
use Rattle.bd_cnf.specs.Trail.{IsPartOf}
use Rattle.bd_lrat.specs.Database.{numbered, remove_all}
use Rattle.bd_lrat.specs.Deletions.{IsCovered}
use Rattle.bd_lrat.proofs.Ids.{up_to_formula}
use Rattle.bd_lrat.proofs.Keys.{tied}
use Rattle.bd_lrat.proofs.Standings.{numbered-push}
use Rattle.bd_watch.specs.Levels.{Assigned, literals, decisions, reasons, IsComplete}
use Rattle.bd_watch.specs.Trails.{IsDecisionAt}
use Rattle.bd_watch.proofs.Parts.{part_nil}
use Rattle.bd_watch.proofs.Placed.{complete_front, complete_consistent}
use Rattle.bd_watch.proofs.Fronts.{in_front, no_decisions}
use Rattle.bd_watch.proofs.Guards.{front_part}
use Rattle.bd_cdcl.specs.inner.Deletions.{IsFixed, IsSatisfied, MayDelete, IsReduced, standing_of, AreCovered, AreMarked, AreUnmarked}
use Rattle.bd_cdcl.proofs.Replay.{replayed}

-- no literal up to one of level 0 was decided
fixed_implied : (trail : List Assigned) (a : Assigned) → (f : IsFixed trail a) → decisions (take (f.place + 1) trail) ≡ []
fixed_implied trail a f = no_decisions (take (f.place + 1) trail) none
  where
    low : f.place < length trail
    low = f.within

    size : length (take (f.place + 1) trail) ≡ f.place + 1
    size = length-take-le (f.place + 1) trail (omega (arith, low))

    none : (place : ℕ) → IsDecisionAt (take (f.place + 1) trail) place → ⊥
    none place at =
        let early : place < f.place + 1 = omega (arith, at.within, size) in
        let later : f.place < place = f.first place (record {
          within = omega (arith, early, low);
          undecided = λ d. ap (λ (b : Assigned). b.reason) (sym (get_or-take (f.place + 1) trail place d early)) ∙ at.undecided d;
        }) in
        absurd (omega arith)

-- so a clause that level 0 makes true is covered by what stands, where its reasons do
pub satisfied_covered : (standing : Standing) (trail : List Assigned) (id : ℕ) (clause : List Literal) → IsComplete standing trail → IsSatisfied trail id clause → IsCovered standing clause
satisfied_covered standing trail id clause all so =
    let f = so.fixed in
    let level : List Assigned = take (f.place + 1) trail in
    let complete : IsComplete standing (take (f.place + 1) trail) = complete_front standing (take (f.place + 1) trail) (drop (f.place + 1) trail) (subst (IsComplete standing) (sym (take-append-drop (f.place + 1) trail)) all) in
    let end = replayed standing (literals trail) (complete_consistent standing trail all) [] (take (f.place + 1) trail) [] [] complete (part_nil []) (part_nil (literals trail)) (front_part trail (f.place + 1)) (subst (λ ds. IsPartOf ds []) (sym (fixed_implied trail so.entry f)) (part_nil [])) in
    inr (record {
      hints = reasons (take (f.place + 1) trail) ++ [];
      trail = end.after;
      reached = end.same;
      literal = so.entry.literal;
      here = so.here;
      is_true = end.all so.entry.literal (subst (λ (b : Assigned). has_literal (literals (take (f.place + 1) trail)) b.literal ≡ true) (f.is so.entry) (in_front trail f.place (f.place + 1) so.entry (omega arith) f.within));
    })

-- and so are all that were deleted
pub reduced_covered : (clauses : List (List Literal)) (trail : List Assigned) (standing : Standing) → IsComplete standing trail → IsReduced clauses trail standing → AreCovered clauses standing
reduced_covered clauses trail standing all reduced id none = by_case (get (numbered clauses) id) (reduced.gone id none)
  where
    by_case : (o : Option (List Literal)) → IfSome o (IsSatisfied trail id) → IfSome o (IsCovered standing)
    by_case None so = tt
    by_case (Some c) so = satisfied_covered standing trail id c all so

-- and those that a line takes out
pub deleted_covered : (clauses : List (List Literal)) (trail : List Assigned) (old standing : Standing) (ids : List ℕ) → IsComplete standing trail → IsReduced clauses trail old → All (MayDelete clauses trail) ids → All (λ gone. IfSome (get old gone) (IsCovered standing)) ids
deleted_covered clauses trail old standing ids all reduced may = All-weaker (MayDelete clauses trail) (λ gone. IfSome (get old gone) (IsCovered standing)) (λ gone so. by_case gone so (get old gone) (reduced.kept gone)) ids may
  where
    by_case : (gone : ℕ) → MayDelete clauses trail gone → (o : Option (List Literal)) → IfSome o (λ c. get (numbered clauses) gone ≡ Some c) → IfSome o (IsCovered standing)
    by_case gone so None e = tt
    by_case gone so (Some c) e = satisfied_covered standing trail gone c all (subst (λ o. IsSomeAnd o (IsSatisfied trail gone)) e so)

-- a clause that may be deleted is one of the clauses
pub may_delete_given : (clauses : List (List Literal)) (trail : List Assigned) (id : ℕ) → MayDelete clauses trail id → id ≤ length clauses
may_delete_given clauses trail id may = up_to_formula (problem 0 clauses) id (some (get (numbered clauses) id) may)
  where
    some : (o : Option (List Literal)) → IsSomeAnd o (IsSatisfied trail id) → is_some o ≡ true
    some None so = absurd so
    some (Some c) so = refl

-- deletions one after another
pub remove_all-append : (standing : Standing) (xs ys : List ℕ) → remove_all (remove_all standing xs) ys ≡ remove_all standing (xs ++ ys)
remove_all-append standing [] ys = refl
remove_all-append standing (x ∷ xs) ys = remove_all-append (remove standing x) xs ys

-- an addition under another id before a deletion or after it
insert-remove : (standing : Standing) (id new : ℕ) (clause : List Literal) → id < new → insert (remove standing id) new clause ≡ remove (insert standing new clause) id
insert-remove standing id new clause less = same_map nat_cmp_total nat_cmp-IsAntisymmetric _ _ (λ q. left q ∙ either q (eq_by_cmp nat_cmp q new) (eq_by_cmp nat_cmp q id) refl refl ∙ sym (right q))
  where
    left : (q : ℕ) → get (insert (remove standing id) new clause) q ≡ cond (eq_by_cmp nat_cmp q new) (Some clause) (cond (eq_by_cmp nat_cmp q id) None (get standing q))
    left q = get-insert nat_cmp_total (remove standing id) new clause q ∙ ap (cond (eq_by_cmp nat_cmp q new) (Some clause)) (get-remove nat_cmp_total standing id q)

    right : (q : ℕ) → get (remove (insert standing new clause) id) q ≡ cond (eq_by_cmp nat_cmp q id) None (cond (eq_by_cmp nat_cmp q new) (Some clause) (get standing q))
    right q = get-remove nat_cmp_total (insert standing new clause) id q ∙ ap (cond (eq_by_cmp nat_cmp q id) None) (get-insert nat_cmp_total standing new clause q)

    either : (q : ℕ) (a b : Bool) → eq_by_cmp nat_cmp q new ≡ a → eq_by_cmp nat_cmp q id ≡ b → cond a (Some clause) (cond b None (get standing q)) ≡ cond b None (cond a (Some clause) (get standing q))
    either q true true e f =
        let one : q ≡ new = eqb-true q new (sym (tied q new) ∙ e) in
        let other : q ≡ id = eqb-true q id (sym (tied q id) ∙ f) in
        absurd (omega arith)
    either q true false e f = refl
    either q false true e f = refl
    either q false false e f = refl

insert-remove_all : (standing : Standing) (ids : List ℕ) (last : ℕ) (clause : List Literal) → All (λ id. id ≤ last) ids → insert (remove_all standing ids) (last + 1) clause ≡ remove_all (insert standing (last + 1) clause) ids
insert-remove_all standing [] last clause low = refl
insert-remove_all standing (id ∷ ids) last clause low =
    let first : id ≤ last = All-head (λ i. i ≤ last) id ids low in
    insert-remove_all (remove standing id) ids last clause (All-tail (λ i. i ≤ last) id ids low) ∙ ap (λ s. remove_all s ids) (insert-remove standing id (last + 1) clause (omega arith))

-- what stands with a clause more
pub standing_adds : (clauses : List (List Literal)) (ids : List ℕ) (clause : List Literal) → All (λ id. id ≤ length clauses) ids → insert (standing_of clauses ids) (length clauses + 1) clause ≡ standing_of (clauses ++ clause ∷ []) ids
standing_adds clauses ids clause low = insert-remove_all (numbered clauses) ids (length clauses) clause low ∙ ap (λ s. remove_all s ids) (sym (numbered-push clauses clause))

-- what wasn't deleted still stands
kept_of : (standing : Standing) (deleted : List ℕ) (id : ℕ) → All (λ gone. gone ≢ id) deleted → get (remove_all standing deleted) id ≡ get standing id
kept_of standing [] id others = refl
kept_of standing (gone ∷ deleted) id others =
    kept_of (remove standing gone) deleted id (All-tail (λ i. i ≢ id) gone deleted others)
    ∙ get-remove nat_cmp_total standing gone id
    ∙ ap (λ b. cond b None (get standing id)) (tied id gone ∙ ne_eqb id gone (λ same. All-head (λ i. i ≢ id) gone deleted others (sym same)))

-- so clauses that aren't marked stand, where what was deleted is
pub unmarked_stand : (clauses : List (List Literal)) (trail : List Assigned) (marks : List Bool) (deleted ids : List ℕ) → AreMarked marks deleted → AreUnmarked marks ids → All (MayDelete clauses trail) ids → All (λ id. IsSome (get (standing_of clauses deleted) id)) ids
unmarked_stand clauses trail marks deleted ids marked unmarked may = λ k d low.
    let id : ℕ = get_or ids k d in
    let others : All (λ gone. gone ≢ id) deleted = λ j e within same. true≢false (sym (marked j e within) ∙ ap (λ i. get_or marks i false) same ∙ unmarked k d low) in
    ap is_some (kept_of (numbered clauses) deleted id others) ∙ may_stands id (get (numbered clauses) id) (may k d low)
  where
    may_stands : (id : ℕ) (o : Option (List Literal)) → IsSomeAnd o (IsSatisfied trail id) → is_some o ≡ true
    may_stands id None so = absurd so
    may_stands id (Some c) so = refl
