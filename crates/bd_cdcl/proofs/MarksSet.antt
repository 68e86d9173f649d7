-- The marks of a clause's variables.
use Rattle.std.proofs.Common.{◌≡◌, ℕ, ◌+◌, ◌<◌, Bool, true, false, List, [], ◌∷◌, ◌++◌, None, length, get_or, set, take, sym, ap, ◌∙◌, subst, inl, inr, arith, eqb, length-set, get_or-set_same, get_or-set_other}
use Rattle.std.proofs.lemmas.Bool.{false≢true, cases_eq, cases_lt, or_cases, or_parts, eqb-true, eq-eqb}
use Rattle.std.proofs.lemmas.List.{take_more}
use Rattle.std.proofs.lemmas.List.Folds.{list_any-append}
use Rattle.bd_cnf.specs.Literal.{Literal, has_variable}
use Rattle.bd_cnf.specs.Standing.{Standing}
use Rattle.bd_cnf.proofs.Closed.{has_variable_of}
use Rattle.bd_watch.specs.Levels.{Assigned, IsComplete}
use Rattle.bd_watch.specs.Trails.{IsPlaceOf}
use Rattle.bd_watch.specs.Watching.{front}
use Rattle.bd_watch.proofs.Fronts.{in_front}
use Rattle.bd_cdcl.specs.inner.Analysis.{marked, Marks}
use Rattle.bd_cdcl.proofs.AnalysisSteps.{placed_at}

-- each variable stands at one place
pub once_on : (standing : Standing) (trail : List Assigned) → IsComplete standing trail → (p q : ℕ) (d : Assigned) → p < length trail → q < length trail → (get_or trail p d).literal.var ≡ (get_or trail q d).literal.var → p ≡ q
once_on standing trail all p q d here there same =
    elim (cases_eq p q) [
      | inl e ↦ e
      | inr apart ↦ elim (cases_lt p q) [
        | inl below ↦ absurd (clash p q here there same below)
        | inr above ↦ absurd (clash q p there here (sym same) (omega (arith, apart)))
      ]
    ]
  where
    clash : (low high : ℕ) → low < length trail → high < length trail → (get_or trail low d).literal.var ≡ (get_or trail high d).literal.var → low < high → ⊥
    clash low high a b e h = false≢true (sym (placed_at trail standing all high d b).unassigned ∙ subst (λ v. has_variable (front trail high) v ≡ true) e (has_variable_of (front trail high) (get_or trail low d).literal (in_front trail low high d h a)))

-- one literal's more
pub marks_more : (trail : List Assigned) (xs : List Literal) (l : Literal) (old mid : List Bool) (place : ℕ) → ((p q : ℕ) (d : Assigned) → p < length trail → q < length trail → (get_or trail p d).literal.var ≡ (get_or trail q d).literal.var → p ≡ q) → Marks trail xs old mid → IsPlaceOf trail l.var place → place < length mid → Marks trail (xs ++ l ∷ []) old (set mid place true)
marks_more trail xs l old mid place once is at low = record {
  size = length-set mid place true ∙ is.size;
  set = λ p d h there. elim (cases_eq p place) [
    | inl e ↦ ap (marked (set mid place true)) e ∙ get_or-set_same mid place true false low
    | inr apart ↦ get_or-set_other mid place p true false apart ∙ elim (or_cases _ _ (sym (list_any-append (λ (m : Literal). eqb m.var (get_or trail p d).literal.var) xs (l ∷ [])) ∙ there)) [
      | inl old_one ↦ is.set p d h old_one
      | inr new_one ↦ elim (or_cases (eqb l.var (get_or trail p d).literal.var) false new_one) [
        | inl e ↦ absurd (apart (once p place d h at.within (sym (eqb-true l.var (get_or trail p d).literal.var e) ∙ sym (at.is d))))
        | inr e ↦ absurd (false≢true e)
      ]
    ]
  ];
  others = λ p none. get_or-set_other mid place p true false (λ e. absurd (at_place p e none)) ∙ is.others p (λ h d. (or_parts _ _ (sym (list_any-append (λ (m : Literal). eqb m.var (get_or trail p d).literal.var) xs (l ∷ [])) ∙ none h d)).0);
}
  where
    at_place : (p : ℕ) → p ≡ place → (p < length trail → (d : Assigned) → has_variable (xs ++ l ∷ []) (get_or trail p d).literal.var ≡ false) → ⊥
    at_place p e none =
        let d : Assigned = record { literal = l; reason = None } in
        let h : p < length trail = subst (λ n. n < length trail) (sym e) at.within in
        let v : ℕ = (get_or trail p d).literal.var in
        let off = (or_parts (eqb l.var v) false ((or_parts (has_variable xs v) (has_variable (l ∷ []) v) (sym (list_any-append (λ (m : Literal). eqb m.var v) xs (l ∷ [])) ∙ none h d)).1)).0 in
        false≢true (sym off ∙ eq-eqb l.var (get_or trail p d).literal.var (sym (ap (λ n. (get_or trail n d).literal.var) e ∙ at.is d)))

-- the next literal of the clause
pub marks_next : (standing : Standing) (trail : List Assigned) (clause : List Literal) (i : ℕ) (l : Literal) (old mid : List Bool) (place : ℕ) → IsComplete standing trail → i < length clause → l ≡ get_or clause i l → Marks trail (take i clause) old mid → IsPlaceOf trail l.var place → place < length mid → Marks trail (take (i + 1) clause) old (set mid place true)
marks_next standing trail clause i l old mid place all h is so at low =
    subst (λ xs. Marks trail xs old (set mid place true)) (sym (take_more clause i l h ∙ ap (λ (m : Literal). take i clause ++ m ∷ []) (sym is))) (marks_more trail (take i clause) l old mid place (once_on standing trail all) so at low)
