-- Trails whose literals are all placed: taken apart, put together, and over more clauses.
use Rattle.std.proofs.Common.{◌≡◌, ℕ, cond, List, [], ◌∷◌, ◌++◌, Option, None, Some, refl, sym, ap, ◌∙◌, subst, inl, inr, append_assoc, append-nil}
use Rattle.std.specs.Prelude.{IsSomeAnd}
use Rattle.std.specs.Ordering.{nat_cmp, eq_by_cmp}
use Rattle.std.specs.Cmp.{nat_cmp_total}
use Rattle.std.specs.FinMap.{get, insert, get-insert}
use Rattle.std.proofs.lemmas.Bool.{cases_Bool, or_cases, or_left, eqb-true, eq-eqb}
use Rattle.std.proofs.lemmas.List.{map-append}
use Rattle.std.proofs.lemmas.List.Elements.{filter_map-append}
use Rattle.bd_cnf.specs.Literal.{Literal, literal_eq}
use Rattle.bd_cnf.specs.Standing.{Standing}
use Rattle.bd_cnf.specs.Trail.{open_literals, IsConsistent, IsClosed, IsPartOf}
use Rattle.bd_cnf.proofs.Standings.{each_insert}
use Rattle.bd_lrat.proofs.Keys.{tied}
use Rattle.bd_watch.specs.Levels.{Assigned, assigned, literals, decided, decisions, IsReason, IsPlaced, ArePlaced, IsComplete}
use Rattle.bd_watch.proofs.Parts.{part_nil, has_later, consistent_push, consistent_nil}

pub literals-append : (xs ys : List Assigned) → literals (xs ++ ys) ≡ literals xs ++ literals ys
literals-append xs ys = map-append (λ (a : Assigned). a.literal) xs ys

pub decisions-append : (xs ys : List Assigned) → decisions (xs ++ ys) ≡ decisions xs ++ decisions ys
decisions-append xs ys = filter_map-append (λ (a : Assigned). decided a.literal a.reason) xs ys

-- a decision is one of the trail's literals
pub decisions_part : (trail : List Assigned) → IsPartOf (decisions trail) (literals trail)
decisions_part [] = part_nil []
decisions_part (a ∷ rest) = first a.reason (decisions_part rest)
  where
    first : (r : Option ℕ) → IsPartOf (decisions rest) (literals rest) → IsPartOf (decisions (assigned a.literal r ∷ rest)) (literals (a ∷ rest))
    first None part l h = elim (or_cases _ _ h) [ inl e ↦ or_left (literal_eq l a.literal) _ e | inr e ↦ has_later l a.literal (literals rest) (part l e) ]
    first (Some id) part l h = has_later l a.literal (literals rest) (part l h)

module _ (standing : Standing) where
  pub placed_append : (before : List Literal) (xs ys : List Assigned) → ArePlaced standing before xs → ArePlaced standing (before ++ literals xs) ys → ArePlaced standing before (xs ++ ys)
  placed_append before [] ys front back = subst (λ ls. ArePlaced standing ls ys) (append-nil before) back
  placed_append before (x ∷ xs) ys front back =
      (front.0, placed_append (before ++ x.literal ∷ []) xs ys front.1 (subst (λ ls. ArePlaced standing ls ys) (sym (append_assoc before (x.literal ∷ []) (literals xs))) back))

  pub placed_front : (before : List Literal) (xs ys : List Assigned) → ArePlaced standing before (xs ++ ys) → ArePlaced standing before xs
  placed_front before [] ys all = tt
  placed_front before (x ∷ xs) ys all = (all.0, placed_front (before ++ x.literal ∷ []) xs ys all.1)

  pub placed_back : (before : List Literal) (xs ys : List Assigned) → ArePlaced standing before (xs ++ ys) → ArePlaced standing (before ++ literals xs) ys
  placed_back before [] ys all = subst (λ ls. ArePlaced standing ls ys) (sym (append-nil before)) all
  placed_back before (x ∷ xs) ys all = subst (λ ls. ArePlaced standing ls ys) (append_assoc before (x.literal ∷ []) (literals xs)) (placed_back (before ++ x.literal ∷ []) xs ys all.1)

  -- one more literal after a complete trail
  pub complete_push : (trail : List Assigned) (a : Assigned) → IsComplete standing trail → IsPlaced standing (literals trail) a → IsComplete standing (trail ++ a ∷ [])
  complete_push trail a front last = placed_append [] trail (a ∷ []) front (last, tt)

  pub complete_front : (xs ys : List Assigned) → IsComplete standing (xs ++ ys) → IsComplete standing xs
  complete_front xs ys all = placed_front [] xs ys all

  -- what stands at a place of a complete trail is placed there
  pub complete_at : (xs : List Assigned) (a : Assigned) (ys : List Assigned) → IsComplete standing (xs ++ a ∷ ys) → IsPlaced standing (literals xs) a
  complete_at xs a ys all = (placed_back [] xs (a ∷ ys) all).0

  placed_consistent : (before : List Literal) (xs : List Assigned) → IsConsistent before → ArePlaced standing before xs → IsConsistent (before ++ literals xs)
  placed_consistent before [] so all = subst IsConsistent (sym (append-nil before)) so
  placed_consistent before (x ∷ xs) so all =
      subst IsConsistent (append_assoc before (x.literal ∷ []) (literals xs)) (placed_consistent (before ++ x.literal ∷ []) xs (consistent_push before x.literal so all.0.unassigned) all.1)

  -- a complete trail has no literal with its negation
  pub complete_consistent : (trail : List Assigned) → IsComplete standing trail → IsConsistent (literals trail)
  complete_consistent trail all = placed_consistent [] trail consistent_nil all

-- what stands under an id stays where a clause is added under one that has none
pub some_kept : (P : List Literal → Type 0) (standing : Standing) (id : ℕ) (clause : List Literal) (q : ℕ) → get standing id ≡ None → IsSomeAnd (get standing q) P → IsSomeAnd (get (insert standing id clause) q) P
some_kept P standing id clause q none here =
    elim (cases_Bool (eq_by_cmp nat_cmp q id)) [
      | inl e ↦
          let same : q ≡ id = eqb-true q id (sym (tied q id) ∙ e) in
          absurd (subst (λ o. IsSomeAnd o P) none (subst (λ n. IsSomeAnd (get standing n) P) same here))
      | inr e ↦ subst (λ o. IsSomeAnd o P) (sym (get-insert nat_cmp_total standing id clause q ∙ ap (λ b. cond b (Some clause) (get standing q)) e)) here
    ]

-- the clause that is added stands
pub added_stands : (standing : Standing) (id : ℕ) (clause : List Literal) → get (insert standing id clause) id ≡ Some clause
added_stands standing id clause = get-insert nat_cmp_total standing id clause id ∙ ap (λ b. cond b (Some clause) (get standing id)) (tied id id ∙ eq-eqb id id refl)

-- a clause is neither unit nor false at each decision
abbrev pub IsClosedAtDecisions : List Assigned → List Literal → Type 0
IsClosedAtDecisions trail clause = (xs : List Assigned) (a : Assigned) (ys : List Assigned) → trail ≡ xs ++ a ∷ ys → a.reason ≡ None → IsClosed (literals xs) clause

-- a trail stays complete over one more clause that is neither unit nor false at its decisions
pub complete_insert : (standing : Standing) (id : ℕ) (clause : List Literal) (trail : List Assigned) → get standing id ≡ None → IsClosedAtDecisions trail clause → IsComplete standing trail → IsComplete (insert standing id clause) trail
complete_insert standing id clause trail none closed all = rest [] trail refl all
  where
    placed : (before : List Literal) (l : Literal) (r : Option ℕ) → (r ≡ None → IsClosed before clause) → IsReason standing before l r → IsReason (insert standing id clause) before l r
    placed before l None here so = each_insert (IsClosed before) standing id clause (here refl) so
    placed before l (Some q) here so = some_kept (λ c. open_literals before c ≡ l ∷ []) standing id clause q none so

    rest : (done more : List Assigned) → trail ≡ done ++ more → ArePlaced standing (literals done) more → ArePlaced (insert standing id clause) (literals done) more
    rest done [] e all = tt
    rest done (a ∷ more) e all =
        let pushed : literals (done ++ a ∷ []) ≡ literals done ++ a.literal ∷ [] = literals-append done (a ∷ []) in (
          record { unassigned = all.0.unassigned; reason = placed (literals done) a.literal a.reason (closed done a more e) all.0.reason },
          subst (λ ls. ArePlaced (insert standing id clause) ls more) pushed (rest (done ++ a ∷ []) more (e ∙ sym (append_assoc done (a ∷ []) more)) (subst (λ ls. ArePlaced standing ls more) (sym pushed) all.1)),
        )
