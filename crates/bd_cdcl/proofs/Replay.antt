-- Propagation along the reasons of a complete trail takes all of it, from any part that has its decisions.
use Rattle.std.proofs.Common.{◌≡◌, ℕ, Bool, true, false, not, cond, List, [], ◌∷◌, ◌++◌, Option, None, Some, refl, sym, ap, ◌∙◌, subst, inl, inr, append_assoc, append-nil}
use Rattle.std.specs.Prelude.{IsSomeAnd}
use Rattle.std.specs.Option.{option_map}
use Rattle.std.specs.List.{cons_option}
use Rattle.std.specs.FinMap.{get}
use Rattle.std.proofs.lemmas.Bool.{false≢true, cases_Bool}
use Rattle.bd_cnf.specs.Literal.{Literal, has_literal}
use Rattle.bd_cnf.specs.Standing.{Standing}
use Rattle.bd_cnf.specs.Trail.{is_false, open_literals, IsConsistent, IsPartOf}
use Rattle.bd_lrat.specs.declared.line.Hint.{Hint}
use Rattle.bd_lrat.specs.declared.line.Hint.TheVariants as hint
use Rattle.bd_lrat.specs.Propagation.{Conflict, Reached, assign, unit_outcome, clause_outcome, and_then, propagate}
use Rattle.bd_watch.specs.Levels.{Assigned, literals, decided, decisions, reasons, IsReason, ArePlaced, IsComplete}
use Rattle.bd_cnf.proofs.Closed.{part_push}
use Rattle.bd_watch.proofs.Parts.{part_nil, has_here, has_later, has_left, has_pushed, open_shrinks}
use Rattle.bd_watch.proofs.Placed.{complete_consistent}

-- a clause with one open literal, which the whole trail doesn't make false, has that one open on a longer part too
open_again : (before taken whole clause : List Literal) (l : Literal) → IsPartOf before taken → IsPartOf taken whole → is_false whole l ≡ false → open_literals before clause ≡ l ∷ [] → open_literals taken clause ≡ l ∷ []
open_again before taken whole clause l longer inside free e =
    open_shrinks before taken clause longer ∙ ap (open_literals taken) e ∙ ap (λ b. cond (not b) (l ∷ []) []) not_taken
  where
    not_taken : is_false taken l ≡ false
    not_taken = elim (cases_Bool (is_false taken l)) [ inl h ↦ absurd (false≢true (sym free ∙ inside _ h)) | inr h ↦ h ]

-- a false clause is false on what has all of the trail
pub false_again : (before taken clause : List Literal) → IsPartOf before taken → open_literals before clause ≡ [] → open_literals taken clause ≡ []
false_again before taken clause longer e = open_shrinks before taken clause longer ∙ ap (open_literals taken) e

-- what the next steps start from: no less than before, within the whole, and with the literal
pub record IsNext (taken whole : List Literal) (l : Literal) (after : List Literal) : Type 0 where
  pub keeps : IsPartOf taken after
  pub inside : IsPartOf after whole
  pub has : has_literal after l ≡ true

assigned_next : (taken whole : List Literal) (l : Literal) → IsPartOf taken whole → has_literal whole l ≡ true → IsNext taken whole l (assign taken l)
assigned_next taken whole l inside on = either (has_literal taken l) refl
  where
    either : (b : Bool) → has_literal taken l ≡ b → IsNext taken whole l (cond b taken (taken ++ l ∷ []))
    either true e = record { keeps = λ m h. h; inside = inside; has = e }
    either false e = record { keeps = has_left taken (l ∷ []); inside = part_push taken whole l inside on; has = has_pushed taken l }

clause_again : (id : ℕ) (before taken whole : List Literal) (l : Literal) (o : Option (List Literal)) → IsPartOf before taken → IsPartOf taken whole → is_false whole l ≡ false → IsSomeAnd o (λ clause. open_literals before clause ≡ l ∷ []) → clause_outcome id taken o ≡ Reached (assign taken l)
clause_again id before taken whole l None longer inside free is = absurd is
clause_again id before taken whole l (Some clause) longer inside free is = ap (unit_outcome id taken) (open_again before taken whole clause l longer inside free is)

module _ (standing : Standing) (whole : List Literal) (consistent : IsConsistent whole) where
  -- where propagation comes to along the reasons
  pub record IsReplayed (before : List Literal) (trail : List Assigned) (taken : List Literal) (more : List Hint) : Type 0 where
    pub after : List Literal
    pub same : propagate standing taken (reasons trail ++ more) ≡ propagate standing after more
    pub all : IsPartOf (before ++ literals trail) after
    pub inside : IsPartOf after whole

  -- one literal of the trail: a decision is there already, and any other comes along its reason
  pub record IsStepped (taken : List Literal) (l : Literal) (r : Option ℕ) (more : List Hint) : Type 0 where
    pub after : List Literal
    pub same : propagate standing taken (cons_option (option_map hint.Unit r) more) ≡ propagate standing after more
    pub next : IsNext taken whole l after

  step : (before taken : List Literal) (l : Literal) (r : Option ℕ) (ds : List Literal) (more : List Hint) → IsReason standing before l r → IsPartOf before taken → IsPartOf taken whole → has_literal whole l ≡ true → IsPartOf (cons_option (decided l r) ds) taken → IsStepped taken l r more
  step before taken l None ds more reason longer inside on has = record {
    after = taken;
    same = refl;
    next = record { keeps = λ m h. h; inside = inside; has = has l (has_here l ds) };
  }
  step before taken l (Some id) ds more reason longer inside on has = record {
    after = assign taken l;
    same = ap (λ o. and_then o (λ next. propagate standing next more)) (clause_again id before taken whole l (get standing id) longer inside (consistent l on) reason);
    next = assigned_next taken whole l inside on;
  }

  later : (l : Literal) (r : Option ℕ) (ds taken : List Literal) → IsPartOf (cons_option (decided l r) ds) taken → IsPartOf ds taken
  later l None ds taken has m h = has m (has_later m l ds h)
  later l (Some id) ds taken has m h = has m h

  pub replayed : (before : List Literal) (trail : List Assigned) (taken : List Literal) (more : List Hint) → ArePlaced standing before trail → IsPartOf before taken → IsPartOf taken whole → IsPartOf (literals trail) whole → IsPartOf (decisions trail) taken → IsReplayed before trail taken more
  replayed before [] taken more all longer inside on has = record {
    after = taken;
    same = refl;
    all = subst (λ ls. IsPartOf ls taken) (sym (append-nil before)) longer;
    inside = inside;
  }
  replayed before (a ∷ rest) taken more all longer inside on has =
      let now = step before taken a.literal a.reason (decisions rest) (reasons rest ++ more) all.0.reason longer inside (on a.literal (has_here a.literal (literals rest))) has in
      let then = replayed (before ++ a.literal ∷ []) rest now.after more all.1
      (part_push before now.after a.literal (λ m h. now.next.keeps m (longer m h)) now.next.has)
      now.next.inside
      (λ m h. on m (has_later m a.literal (literals rest) h))
      (λ m h. now.next.keeps m (later a.literal a.reason (decisions rest) taken has m h)) in
      record {
        after = then.after;
        same = joined a.reason ∙ now.same ∙ then.same;
        all = subst (λ ls. IsPartOf ls then.after) (append_assoc before (a.literal ∷ []) (literals rest)) then.all;
        inside = then.inside;
      }
    where
      joined : (r : Option ℕ) → propagate standing taken (cons_option (option_map hint.Unit r) (reasons rest) ++ more) ≡ propagate standing taken (cons_option (option_map hint.Unit r) (reasons rest ++ more))
      joined None = refl
      joined (Some id) = refl

-- from a part of a complete trail that has its decisions, its reasons and then a clause that it makes false end in a conflict
pub replay_conflict : (standing : Standing) (trail : List Assigned) (taken : List Literal) (id : ℕ) (clause : List Literal) → IsComplete standing trail → IsPartOf taken (literals trail) → IsPartOf (decisions trail) taken → get standing id ≡ Some clause → open_literals (literals trail) clause ≡ [] → propagate standing taken (reasons trail ++ hint.Unit id ∷ []) ≡ Conflict
replay_conflict standing trail taken id clause all inside has stands is_false =
    let end = replayed standing (literals trail) (complete_consistent standing trail all) [] trail taken (hint.Unit id ∷ []) all (part_nil taken) inside (λ l h. h) has in
    end.same
    ∙ ap (λ o. and_then (clause_outcome id end.after o) (λ more. propagate standing more [])) stands
    ∙ ap (λ ls. and_then (unit_outcome id end.after ls) (λ more. propagate standing more [])) (false_again (literals trail) end.after clause end.all is_false)

-- from any part of a consistent trail, along implied literals of it whose reasons are unit one after another, to a clause that is false then: a conflict, as a learned clause's negations lead to it
pub chain_conflict : (standing : Standing) (whole : List Literal) (taken : List Literal) (marked : List Assigned) (id : ℕ) (clause : List Literal) → IsConsistent whole → IsPartOf taken whole → IsPartOf (literals marked) whole → ArePlaced standing taken marked → decisions marked ≡ [] → get standing id ≡ Some clause → open_literals (taken ++ literals marked) clause ≡ [] → propagate standing taken (reasons marked ++ hint.Unit id ∷ []) ≡ Conflict
chain_conflict standing whole taken marked id clause consistent inside on placed none stands is_false =
    let end = replayed standing whole consistent taken marked taken (hint.Unit id ∷ []) placed (λ l h. h) inside on (subst (λ ds. IsPartOf ds taken) (sym none) (part_nil taken)) in
    end.same
    ∙ ap (λ o. and_then (clause_outcome id end.after o) (λ more. propagate standing more [])) stands
    ∙ ap (λ ls. and_then (unit_outcome id end.after ls) (λ more. propagate standing more [])) (false_again (taken ++ literals marked) end.after clause end.all is_false)
