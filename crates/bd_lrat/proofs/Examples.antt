-- What the laws say of the small examples.
use Rattle.std.proofs.Common.{◌≡◌, ◌≢◌, ℕ, Bool, true, false, not, cond, ◌||◌, eqb, List, [], ◌∷◌, ◌++◌, Option, Some, refl, subst, sym, ap, ◌∙◌, inl, inr, arith}
use Rattle.std.proofs.lemmas.Bool.{false≢true, true≢false, cases_Bool, or_cases, or_left, or_right}
use Rattle.std.proofs.lemmas.List.Elements.{All-from_recursion}
use Rattle.std.specs.FinMap.{get}
use Rattle.bd_cnf.specs.Literal.{Literal, negate, literal_eq, has_literal, has_variable}
use Rattle.bd_cnf.specs.Problem.{problem}
use Rattle.bd_cnf.specs.Standing.{Standing}
use Rattle.bd_cnf.specs.Trail.{IsConsistent, IsPartOf, IsClosed, AreClosed}
use Rattle.bd_cnf.proofs.Literals.{literal_eq-true, literal_eq-refl, has-push, negate_apart, negate_twice, any_from_has}
use Rattle.bd_cnf.proofs.Closed.{has_variable_of, consistent_from, consistent_push}
use Rattle.bd_lrat.specs.declared.line.Hint.{Hint}
use Rattle.bd_lrat.specs.declared.line.Hint.TheVariants as hint
use Rattle.bd_lrat.specs.Propagation.{Outcome, Conflict, Reached, and_then, assign, unit_outcome, clause_outcome, propagate, reaches}
use Rattle.bd_lrat.specs.declared.line.Line.{Line}
use Rattle.bd_lrat.specs.declared.line.Line.TheVariants.{Delete}
use Rattle.bd_lrat.specs.Database.{numbered, database_of}
use Rattle.bd_lrat.specs.Log.{includes, IsFreshClause, IsFresh, HaveDifferentVariables, IsUnsettled}
use Rattle.bd_lrat.specs.Deletions.{IsCovered, DeletesCovered}
use Rattle.bd_lrat.specs.Examples.{yes, no, square, square_line, weakened_line, forced_apart, not_both, square_and_unit}
use Rattle.bd_lrat.proofs.Standings.{each_numbered, get-numbered}
use Rattle.bd_lrat.proofs.Closed.{StaysWithin, closed_stays, closed_no_conflict, closed_never_reaches}

-- two hints, by the clauses that stand under their ids
two_hints : (standing : Standing) (trail : List Literal) (a b : ℕ) (x y : Option (List Literal)) → get standing a ≡ x → get standing b ≡ y → propagate standing trail (hint.Unit a ∷ hint.Unit b ∷ []) ≡ and_then (clause_outcome a trail x) (λ more. and_then (clause_outcome b more y) (λ last. Reached last))
two_hints standing trail a b x y e f i = and_then (clause_outcome a trail (e i)) (λ more. and_then (clause_outcome b more (f i)) (λ last. Reached last))

nothing_consistent : IsConsistent []
nothing_consistent l h = absurd (false≢true h)

-- no clause of the square is false or unit where nothing is true
square_closed : AreClosed (numbered square) []
square_closed =
    each_numbered (IsClosed []) square (All-from_recursion (IsClosed []) square (inr (omega arith), (inr (omega arith), (inr (omega arith), (inr (omega arith), tt)))))

pub square_unsettled : IsUnsettled (numbered square)
square_unsettled = record {
  no_conflict = λ hints. closed_no_conflict (numbered square) [] nothing_consistent square_closed hints [] (λ l h. h);
  decisions = [];
  last = yes 1;
  different = (refl, tt);
  unreached = closed_never_reaches (numbered square) [] nothing_consistent square_closed [] 1 (λ l h. h) refl;
  hints = hint.Unit 3 ∷ hint.Unit 4 ∷ [];
  conflict = two_hints (numbered square) (yes 1 ∷ []) 3 4 (Some (no 1 ∷ yes 2 ∷ [])) (Some (no 1 ∷ no 2 ∷ [])) (get-numbered square 3) (get-numbered square 4);
}

pub square_fresh : IsFresh (problem 2 square) (square_line ∷ [])
square_fresh = (λ _. fresh, tt)
  where
    fresh : IsFreshClause (numbered square) square (no 1 ∷ [])
    fresh = record {
      includes_none = All-from_recursion (λ other. includes (no 1 ∷ []) other ≡ false) square (refl, (refl, (refl, (refl, tt))));
      literal = no 1;
      stands = refl;
      unreached = closed_never_reaches (numbered square) [] nothing_consistent square_closed [] 1 (λ l h. h) refl;
    }

pub weakened_not_fresh : IsFresh (problem 3 square) (weakened_line ∷ []) → ⊥
weakened_not_fresh fresh = true≢false ((fresh.0 filled).includes_none 0 [] (omega arith))
  where
    is_empty : List Literal → Bool
    is_empty [] = true
    is_empty (l ∷ ls) = false

    filled : yes 1 ∷ yes 2 ∷ yes 3 ∷ [] ≡ [] → ⊥
    filled e = false≢true (ap is_empty e)

-- literals of different variables are consistent
pub consistent_of_different : (ls : List Literal) → HaveDifferentVariables ls → IsConsistent ls
consistent_of_different ls different = consistent_from ls (both ls different)
  where
    both : (ls : List Literal) → HaveDifferentVariables ls → (l : Literal) → has_literal ls l ≡ true → has_literal ls (negate l) ≡ true → ⊥
    both [] different l here there = false≢true here
    both (m ∷ ms) different l here there =
        elim (or_cases (literal_eq l m) _ here) [
          | inl e ↦ elim (or_cases (literal_eq (negate l) m) _ there) [
            | inl f ↦ negate_apart l (literal_eq-true l m e ∙ sym (literal_eq-true (negate l) m f))
            | inr f ↦ true≢false (sym (has_variable_of ms (negate l) f) ∙ ap (λ (k : Literal). has_variable ms k.var) (literal_eq-true l m e) ∙ different.0)
          ]
          | inr e ↦ elim (or_cases (literal_eq (negate l) m) _ there) [
            | inl f ↦ true≢false (sym (has_variable_of ms l e) ∙ ap (λ (k : Literal). has_variable ms k.var) (literal_eq-true (negate l) m f) ∙ different.0)
            | inr f ↦ both ms different.1 l e f
          ]
        ]

one_consistent : IsConsistent (yes 1 ∷ [])
one_consistent = consistent_of_different (yes 1 ∷ []) (refl, tt)

forced_closed : (trail : List Literal) → IsClosed trail (no 1 ∷ no 2 ∷ yes 3 ∷ []) → IsClosed trail (no 1 ∷ no 2 ∷ no 3 ∷ []) → AreClosed (numbered forced_apart) trail
forced_closed trail first second = each_numbered (IsClosed trail) forced_apart (All-from_recursion (IsClosed trail) forced_apart (first, (second, tt)))

pub forced_unsettled : IsUnsettled (numbered forced_apart)
forced_unsettled = record {
  no_conflict = λ hints. closed_no_conflict (numbered forced_apart) [] nothing_consistent (forced_closed [] (inr (omega arith)) (inr (omega arith))) hints [] (λ l h. h);
  decisions = yes 1 ∷ [];
  last = yes 2;
  different = (refl, (refl, tt));
  unreached = closed_never_reaches (numbered forced_apart) (yes 1 ∷ []) one_consistent (forced_closed (yes 1 ∷ []) (inr (omega arith)) (inr (omega arith))) (yes 1 ∷ []) 2 (λ l h. h) refl;
  hints = hint.Unit 1 ∷ hint.Unit 2 ∷ [];
  conflict = two_hints (numbered forced_apart) (yes 1 ∷ yes 2 ∷ []) 1 2 (Some (no 1 ∷ no 2 ∷ yes 3 ∷ [])) (Some (no 1 ∷ no 2 ∷ no 3 ∷ [])) (get-numbered forced_apart 1) (get-numbered forced_apart 2);
}

-- where one of the two variables isn't true, the clause that excludes both gives no conflict
lacks_one : (trail : List Literal) (l : Literal) → has_literal (no 1 ∷ no 2 ∷ []) (negate l) ≡ true → IsConsistent trail → has_literal trail l ≡ false → (hints : List Hint) → propagate (numbered not_both) trail hints ≢ Conflict
lacks_one trail l other consistent lacks hints = closed_no_conflict (numbered not_both) whole whole_consistent closed hints trail inside
  where
    whole : List Literal
    whole = trail ++ negate l ∷ []

    whole_consistent : IsConsistent (trail ++ negate l ∷ [])
    whole_consistent = consistent_push trail (negate l) consistent (ap (has_literal trail) (negate_twice l) ∙ lacks)

    on : has_literal (trail ++ negate l ∷ []) (negate l) ≡ true
    on = has-push trail (negate l) (negate l) ∙ or_right (has_literal trail (negate l)) _ (literal_eq-refl (negate l))

    closed : AreClosed (numbered not_both) (trail ++ negate l ∷ [])
    closed =
        let C : List Literal → Type 0 = IsClosed (trail ++ negate l ∷ []) in
        each_numbered C not_both (All-from_recursion C not_both (inl (any_from_has (has_literal (trail ++ negate l ∷ [])) (no 1 ∷ no 2 ∷ []) (negate l) other on), tt))

    inside : IsPartOf trail (trail ++ negate l ∷ [])
    inside m h = has-push trail (negate l) m ∙ or_left _ _ h

-- what the clause gives from a trail, by which of the two are true there
one_hint : (trail : List Literal) (a b : Bool) → has_literal trail (yes 1) ≡ a → has_literal trail (yes 2) ≡ b → propagate (numbered not_both) trail (hint.Unit 1 ∷ []) ≡ and_then (unit_outcome 1 trail (cond (not a) (no 1 ∷ cond (not b) (no 2 ∷ []) []) (cond (not b) (no 2 ∷ []) []))) (λ more. Reached more)
one_hint trail a b e f = ap (λ o. and_then (clause_outcome 1 trail o) (λ more. Reached more)) (get-numbered not_both 1) ∙ λ i. and_then (unit_outcome 1 trail (cond (not (e i)) (no 1 ∷ cond (not (f i)) (no 2 ∷ []) []) (cond (not (f i)) (no 2 ∷ []) []))) (λ more. Reached more)

assign_has : (trail : List Literal) (m : Literal) → has_literal (assign trail m) m ≡ true
assign_has trail m = first (has_literal trail m) refl
  where
    first : (b : Bool) → has_literal trail m ≡ b → has_literal (cond b trail (trail ++ m ∷ [])) m ≡ true
    first true e = e
    first false e = has-push trail m m ∙ or_right (has_literal trail m) _ (literal_eq-refl m)

never_both : (trail : List Literal) (l : Literal) → ((hints : List Hint) → reaches (propagate (numbered not_both) trail hints) l.var ≡ false) → has_literal (trail ++ l ∷ []) (yes 1) ≡ true → has_literal (trail ++ l ∷ []) (yes 2) ≡ true → ⊥
never_both trail l unreached one two = go (has_literal trail (yes 1)) (has_literal trail (yes 2)) refl refl (sym (has-push trail l (yes 1)) ∙ one) (sym (has-push trail l (yes 2)) ∙ two)
  where
    go : (a b : Bool) → has_literal trail (yes 1) ≡ a → has_literal trail (yes 2) ≡ b → (has_literal trail (yes 1) || literal_eq (yes 1) l) ≡ true → (has_literal trail (yes 2) || literal_eq (yes 2) l) ≡ true → ⊥
    go true true e f h k = true≢false (sym (ap (λ (o : Outcome). reaches o l.var) (one_hint trail true true e f)) ∙ unreached (hint.Unit 1 ∷ []))
    go true false e f h k =
        let last : yes 2 ≡ l = literal_eq-true (yes 2) l (sym (ap (λ b. b || literal_eq (yes 2) l) f) ∙ k) in
        let never : has_variable (assign trail (no 2)) l.var ≡ false = sym (ap (λ (o : Outcome). reaches o l.var) (one_hint trail true false e f)) ∙ unreached (hint.Unit 1 ∷ []) in
        true≢false (sym (has_variable_of (assign trail (no 2)) (no 2) (assign_has trail (no 2))) ∙ ap (λ (m : Literal). has_variable (assign trail (no 2)) m.var) last ∙ never)
    go false true e f h k =
        let last : yes 1 ≡ l = literal_eq-true (yes 1) l (sym (ap (λ b. b || literal_eq (yes 1) l) e) ∙ h) in
        let never : has_variable (assign trail (no 1)) l.var ≡ false = sym (ap (λ (o : Outcome). reaches o l.var) (one_hint trail false true e f)) ∙ unreached (hint.Unit 1 ∷ []) in
        true≢false (sym (has_variable_of (assign trail (no 1)) (no 1) (assign_has trail (no 1))) ∙ ap (λ (m : Literal). has_variable (assign trail (no 1)) m.var) last ∙ never)
    go false false e f h k =
        let first : yes 1 ≡ l = literal_eq-true (yes 1) l (sym (ap (λ b. b || literal_eq (yes 1) l) e) ∙ h) in
        let second : yes 2 ≡ l = literal_eq-true (yes 2) l (sym (ap (λ b. b || literal_eq (yes 2) l) f) ∙ k) in
        true≢false (ap (λ (m : Literal). eqb m.var 1) (first ∙ sym second))

pub not_both_settled : IsUnsettled (numbered not_both) → ⊥
not_both_settled u =
    let trail : List Literal = u.decisions ++ u.last ∷ [] in
    let consistent : IsConsistent (u.decisions ++ u.last ∷ []) = consistent_of_different (u.decisions ++ u.last ∷ []) u.different in
    elim (cases_Bool (has_literal (u.decisions ++ u.last ∷ []) (yes 1))) [
      | inl e ↦ elim (cases_Bool (has_literal (u.decisions ++ u.last ∷ []) (yes 2))) [
        | inl f ↦ never_both u.decisions u.last u.unreached e f
        | inr f ↦ lacks_one (u.decisions ++ u.last ∷ []) (yes 2) refl consistent f u.hints u.conflict
      ]
      | inr e ↦ lacks_one (u.decisions ++ u.last ∷ []) (yes 1) refl consistent e u.hints u.conflict
    ]

-- the unit that decides the square isn't covered by the rest
pub needed_unit_uncovered : IsCovered (numbered square) (yes 1 ∷ []) → ⊥
needed_unit_uncovered (inl (hints, conflict)) = closed_no_conflict (numbered square) [] nothing_consistent square_closed hints [] (λ l h. h) conflict
needed_unit_uncovered (inr so) = false≢true (subst (StaysWithin []) so.reached (closed_stays (numbered square) [] nothing_consistent square_closed so.hints [] (λ l h. h)) so.literal so.is_true)

-- three hints, by the clauses that stand under their ids
three_hints : (standing : Standing) (trail : List Literal) (a b c : ℕ) (x y z : Option (List Literal)) → get standing a ≡ x → get standing b ≡ y → get standing c ≡ z → propagate standing trail (hint.Unit a ∷ hint.Unit b ∷ hint.Unit c ∷ []) ≡ and_then (clause_outcome a trail x) (λ more. and_then (clause_outcome b more y) (λ most. and_then (clause_outcome c most z) (λ last. Reached last)))
three_hints standing trail a b c x y z e f g i = and_then (clause_outcome a trail (e i)) (λ more. and_then (clause_outcome b more (f i)) (λ most. and_then (clause_outcome c most (g i)) (λ last. Reached last)))

-- nor may it be deleted, whatever was added last: propagation from nothing ends in a conflict already
pub needed_deletion_refused : (added : Option ℕ) (id : ℕ) (lines : List Line) → DeletesCovered (database_of (problem 2 square_and_unit)) added (Delete id (5 ∷ []) ∷ lines) → ⊥
needed_deletion_refused added id lines so =
    so.0.no_conflict (hint.Unit 5 ∷ hint.Unit 3 ∷ hint.Unit 4 ∷ [])
    (three_hints (numbered square_and_unit) [] 5 3 4 (Some (yes 1 ∷ [])) (Some (no 1 ∷ yes 2 ∷ [])) (Some (no 1 ∷ no 2 ∷ [])) (get-numbered square_and_unit 5) (get-numbered square_and_unit 3) (get-numbered square_and_unit 4))

-- a unit covers a wider clause
pub wider_covered : IsCovered (numbered ((yes 1 ∷ []) ∷ [])) (yes 1 ∷ yes 2 ∷ [])
wider_covered = inr (record {
  hints = hint.Unit 1 ∷ [];
  trail = yes 1 ∷ [];
  reached = ap (λ o. and_then (clause_outcome 1 [] o) (λ more. Reached more)) (get-numbered ((yes 1 ∷ []) ∷ []) 1);
  literal = yes 1;
  here = refl;
  is_true = refl;
})
