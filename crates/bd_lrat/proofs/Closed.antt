-- Where a trail is closed under unit propagation, propagation from a part of it stays in it: the core of why what a solver adds is fresh.
use Rattle.std.proofs.Common.{◌≡◌, ◌≢◌, ℕ, Bool, true, false, not, cond, List, [], ◌∷◌, ◌++◌, Option, None, Some, IfSome, map, refl, sym, ap, ◌∙◌, subst, inl, inr, get_or}
use Rattle.std.specs.List.{All, list_all}
use Rattle.std.specs.FinMap.{get}
use Rattle.std.proofs.lemmas.Bool.{false≢true, cases_Bool, or_cases, or_left, or_right, and_parts}
use Rattle.bd_cnf.specs.Literal.{Literal, negate, literal_eq, has_literal, has_variable}
use Rattle.bd_cnf.specs.Clause.{IsRising}
use Rattle.bd_cnf.specs.Standing.{Standing}
use Rattle.bd_cnf.specs.Trail.{is_false, open_literals, IsConsistent, IsPartOf, IsClosed, AreClosed}
use Rattle.bd_cnf.proofs.Literals.{literal_eq-true, literal_eq-refl, filter_has}
use Rattle.bd_cnf.proofs.Closed.{IsOpenWithin, closed_open, part_push, part_variable, closed_not_false}
use Rattle.bd_lrat.specs.declared.line.Hint.{Hint}
use Rattle.bd_lrat.specs.declared.line.Hint.TheVariants as hint
use Rattle.bd_lrat.specs.Propagation.{Outcome, Conflict, Reached, Stopped, unit_outcome, clause_outcome, hint_outcome, and_then, propagate, reaches}
use Rattle.bd_lrat.specs.Log.{includes, others, NeverReaches, IsFreshClause}

-- no conflict, and no literal but those of the whole trail
abbrev pub StaysWithin : List Literal → Outcome → Type 0
StaysWithin whole Conflict = ⊥
StaysWithin whole (Reached trail) = IsPartOf trail whole
StaysWithin whole (Stopped r) = Unit {0}

module _ (standing : Standing) (whole : List Literal) (consistent : IsConsistent whole) (closed : AreClosed standing whole) where
  assign_within : (part : List Literal) (l : Literal) (b : Bool) → IsPartOf part whole → has_literal whole l ≡ true → IsPartOf (cond b part (part ++ l ∷ [])) whole
  assign_within part l true inside on = inside
  assign_within part l false inside on = part_push part whole l inside on

  unit_within : (id : ℕ) (part ls : List Literal) → IsPartOf part whole → IsOpenWithin whole ls → StaysWithin whole (unit_outcome id part ls)
  unit_within id part [] inside is = is
  unit_within id part (l ∷ []) inside is = assign_within part l (has_literal part l) inside is
  unit_within id part (l ∷ m ∷ ls) inside is = tt

  clause_within : (id : ℕ) (part : List Literal) (o : Option (List Literal)) → IsPartOf part whole → IfSome o (IsClosed whole) → StaysWithin whole (clause_outcome id part o)
  clause_within id part None inside is = tt
  clause_within id part (Some clause) inside is = unit_within id part (open_literals part clause) inside (closed_open part whole clause consistent inside is)

  hint_within : (part : List Literal) (h : Hint) → IsPartOf part whole → StaysWithin whole (hint_outcome standing part h)
  hint_within part (hint.Unit id) inside = clause_within id part (get standing id) inside (closed id)
  hint_within part (hint.Rat id) inside = tt

  then_within : (o : Outcome) (next : List Literal → Outcome) → StaysWithin whole o → ((part : List Literal) → IsPartOf part whole → StaysWithin whole (next part)) → StaysWithin whole (and_then o next)
  then_within Conflict next now later = now
  then_within (Reached part) next now later = later part now
  then_within (Stopped r) next now later = now

  -- propagation from a part of a closed trail stays in it, without conflict
  pub closed_stays : (hints : List Hint) (part : List Literal) → IsPartOf part whole → StaysWithin whole (propagate standing part hints)
  closed_stays [] part inside = inside
  closed_stays (h ∷ hs) part inside = then_within (hint_outcome standing part h) (λ more. propagate standing more hs) (hint_within part h inside) (closed_stays hs)

  pub closed_no_conflict : (hints : List Hint) (part : List Literal) → IsPartOf part whole → propagate standing part hints ≢ Conflict
  closed_no_conflict hints part inside e = subst (StaysWithin whole) e (closed_stays hints part inside)

  -- so it reaches no variable that the trail doesn't have
  pub closed_never_reaches : (part : List Literal) (var : ℕ) → IsPartOf part whole → has_variable whole var ≡ false → NeverReaches standing part var
  closed_never_reaches part var inside free hints = never (propagate standing part hints) (closed_stays hints part inside)
    where
      never : (o : Outcome) → StaysWithin whole o → reaches o var ≡ false
      never Conflict is = absurd is
      never (Reached trail) is = part_variable trail whole var is free
      never (Stopped r) is = refl

  negations_within : (ls : List Literal) → ((l : Literal) → has_literal ls l ≡ true → is_false whole l ≡ true) → IsPartOf (map negate ls) whole
  negations_within [] all l h = absurd (false≢true h)
  negations_within (m ∷ ms) all l h =
      elim (or_cases (literal_eq l (negate m)) _ h) [
        | inl e ↦ subst (λ (k : Literal). has_literal whole k ≡ true) (sym (literal_eq-true l (negate m) e)) (all m (or_left _ _ (literal_eq-refl m)))
        | inr e ↦ negations_within ms (λ k there. all k (or_right (literal_eq k m) _ there)) l e
      ]

  -- a clause whose literals are false on a closed trail, but for one whose variable the trail doesn't have, is fresh against closed clauses
  pub fresh_from_closed : (earlier : List (List Literal)) (clause : List Literal) (u : Literal) → has_literal clause u ≡ true → has_variable whole u.var ≡ false → ((l : Literal) → has_literal clause l ≡ true → (l ≡ u → ⊥) → is_false whole l ≡ true) → All (λ other. IsRising other × IsClosed whole other) earlier → IsFreshClause standing earlier clause
  fresh_from_closed earlier clause u here free all known = record {
    includes_none = λ k d h. none (get_or earlier k d) (known k d h);
    literal = u;
    stands = here;
    unreached = closed_never_reaches (map negate (others clause u)) u.var (negations_within (others clause u) (λ l h. other_false l (filter_has (λ m. not (literal_eq u m)) clause l h))) free;
  }
    where
      other_false : (l : Literal) → (has_literal clause l ≡ true) × (not (literal_eq u l) ≡ true) → is_false whole l ≡ true
      other_false l h = all l h.0 (λ same. false≢true (sym (ap not (subst (λ (k : Literal). literal_eq u k ≡ true) (sym same) (literal_eq-refl u))) ∙ h.1))

      included : (ls : List Literal) → list_all (has_literal clause) ls ≡ true → (l : Literal) → has_literal ls l ≡ true → has_literal clause l ≡ true
      included [] h l there = absurd (false≢true there)
      included (m ∷ ms) h l there =
          let parts = and_parts (has_literal clause m) _ h in
          elim (or_cases (literal_eq l m) _ there) [
            | inl e ↦ subst (λ (k : Literal). has_literal clause k ≡ true) (sym (literal_eq-true l m e)) parts.0
            | inr e ↦ included ms parts.1 l e
          ]

      none : (other : List Literal) → IsRising other × IsClosed whole other → includes clause other ≡ false
      none other is =
          elim (cases_Bool (includes clause other)) [
            | inl e ↦ absurd (closed_not_false whole other u consistent is.0 is.1 free (λ l there apart. all l (included other e l there) apart))
            | inr e ↦ e
          ]
