-- A pipeline is right over every run exactly where no fitting case breaks a condition, by any abstraction.
use Rattle.std.proofs.Common.{◌≡◌, ℕ, zero, suc, ◌+◌, ◌<◌, ◌≤◌, List, [], ◌∷◌, length, take, refl, ap, sym, ◌∙◌, subst, arith}
use Rattle.std.specs.Prelude.{slice_index, slice_index_or}
use Rattle.std.specs.List.{AllByRecursion, sum}
use Rattle.std.proofs.lemmas.List.Sums.{sum_by-cons}
use Rattle.std.proofs.lemmas.List.Elements.{All-from_recursion}
use Rattle.bd_model.specs.DesignView.{DesignView}
use Rattle.bd_model.specs.Cycle.{step, spec_steps, after, state_after, inputs_at}
use Rattle.bd_model.specs.Same.{Same}
use Rattle.bd_model.specs.Fits.{InterpFits, StateFits, InputsFit, Fits, TrailFits}
use Rattle.bd_model.specs.Lawful.{IsLawful}
use Rattle.bd_model.specs.Conditions.{Abstraction, IsAllowed, MeetsInvariant, KeepsInvariant, CommutesBy, ConditionHoldsBy}
use Rattle.bd_model.specs.Right.{FollowsBy, RightBy}
use Rattle.bd_model.specs.Laws.{NoCaseBreaksBy, CyclesComposeBy}
use Rattle.bd_model.specs.declared.table.Scalar.{Scalar}
use Rattle.bd_model.specs.declared.table.Table.{Table}
use Rattle.bd_model.specs.declared.table.Value.{Value}
use Rattle.bd_model.specs.declared.case.Case.{Case}
use Rattle.bd_model.specs.declared.case.Trail.{Trail}
use Rattle.bd_model.specs.declared.case.Condition.{Condition}
use Rattle.bd_model.specs.declared.case.Condition.TheVariants as condition
use Rattle.bd_model.proofs.SameLemmas.{Same-refl, Same-sym, Same-trans, Same-spec_steps, spec_steps-add}
use Rattle.bd_model.proofs.Settled.{IsTrue-settled, Commutes-settled, settled_holds}
use Rattle.bd_model.proofs.SortLemmas.{StateFits-step, StateFits-after}

-- no cycle at all
follows_start : (d : DesignView) (abs : Abstraction) (interp : List Table) (state : List Value) → FollowsBy d abs (record { interp = interp; state = state; inputs = [] }) []
follows_start d abs interp state = record {
  each = refl;
  few = λ n h. absurd (omega (arith, h));
  allowed = λ n h. absurd (omega (arith, h));
  stands = λ n h. let start : n ≡ 0 = omega (arith, h) in rw start (Same-refl _);
}

-- one cycle more in front
follows_more : (d : DesignView) (abs : Abstraction) (interp : List Table) (state : List Value) (x : List Scalar) (xs : List (List Scalar)) (j : ℕ) (js : List ℕ)
    → j ≤ d.steps → IsAllowed d interp state x j → Same (abs interp (step d.pipe interp state x)) (spec_steps j d interp (abs interp state))
    → FollowsBy d abs (record { interp = interp; state = step d.pipe interp state x; inputs = xs }) js
    → FollowsBy d abs (record { interp = interp; state = state; inputs = x ∷ xs }) (j ∷ js)
follows_more d abs interp state x xs j js few allowed same rest = record {
  each = ap suc rest.each;
  few = few_at;
  allowed = allowed_at;
  stands = stands_at;
} where
  few_at : (n : ℕ) → n < length (x ∷ xs) → slice_index (j ∷ js) n ≤ d.steps
  few_at zero h = few
  few_at (suc n) h = rest.few n (omega (arith, h))

  allowed_at : (n : ℕ) → n < length (x ∷ xs) → IsAllowed d interp (after d interp state (take n (x ∷ xs))) (slice_index_or (x ∷ xs) n []) (slice_index (j ∷ js) n)
  allowed_at zero h = allowed
  allowed_at (suc n) h = rest.allowed n (omega (arith, h))

  stands_at : (n : ℕ) → n ≤ length (x ∷ xs) → Same (abs interp (after d interp state (take n (x ∷ xs)))) (spec_steps (sum (take n (j ∷ js))) d interp (abs interp state))
  stands_at zero h = Same-refl _
  stands_at (suc n) h =
      let i = sum (take n js) in
      let moved : Same (spec_steps i d interp (abs interp (step d.pipe interp state x))) (spec_steps (j + i) d interp (abs interp state)) =
      subst (λ a. Same (spec_steps i d interp (abs interp (step d.pipe interp state x))) a) (spec_steps-add i j d interp (abs interp state))
      (Same-spec_steps i d interp _ _ same) in
      let first : sum (j ∷ take n js) ≡ j + i = sum_by-cons (λ m. m) j (take n js) in
      subst (λ m. Same (abs interp (after d interp (step d.pipe interp state x) (take n xs))) (spec_steps m d interp (abs interp state))) (sym first)
      (Same-trans _ _ _ (rest.stands n (omega (arith, h))) moved)

-- where each cycle of a run commutes, some numbers of steps follow it, whatever the invariant is
pub follows : (d : DesignView) (abs : Abstraction) (interp : List Table) (inputs : List (List Scalar)) (state : List Value)
    → ((n : ℕ) → n < length inputs → CommutesBy d abs interp (after d interp state (take n inputs)) (slice_index_or inputs n []))
    → (counts : List ℕ) × FollowsBy d abs (record { interp = interp; state = state; inputs = inputs }) counts
follows d abs interp [] state each = ([], follows_start d abs interp state)
follows d abs interp (x ∷ xs) state each =
    let first : CommutesBy d abs interp state x = each 0 (omega arith) in
    let rest = follows d abs interp xs (step d.pipe interp state x) (λ n h. each (suc n) (omega (arith, h))) in
    (first.0 ∷ rest.0, follows_more d abs interp state x xs first.0 rest.0 first.1 first.2.0 first.2.1 rest.1)

-- a cycle of a fitting case in a state that meets the invariant keeps it and commutes
keeps : (d : DesignView) (abs : Abstraction) → NoCaseBreaksBy d abs → (c : Case) → Fits d c → MeetsInvariant d c.interp c.state → (which : Condition) → ConditionHoldsBy d abs c which
keeps d abs none c fits inside condition.Invariant =
    settled_holds (IsTrue-settled _) (λ broken. none c condition.Invariant (record { fits = fits; inside = inside; broken = broken }))
keeps d abs none c fits inside condition.Commute =
    settled_holds (Commutes-settled d abs c.interp c.state c.inputs) (λ broken. none c condition.Commute (record { fits = fits; inside = inside; broken = broken }))

-- the invariant stays true along a run
stays_inside : (d : DesignView) (abs : Abstraction) → IsLawful d → NoCaseBreaksBy d abs → (interp : List Table) → InterpFits d interp → (inputs : List (List Scalar)) (state : List Value) → StateFits d state → AllByRecursion (InputsFit d) inputs → MeetsInvariant d interp state
    → (n : ℕ) → MeetsInvariant d interp (after d interp state (take n inputs))
stays_inside d abs lawful none interp fits inputs state h k inside zero = inside
stays_inside d abs lawful none interp fits [] state h k inside (suc n) = inside
stays_inside d abs lawful none interp fits (x ∷ xs) state h k inside (suc n) =
    stays_inside d abs lawful none interp fits xs (step d.pipe interp state x) (StateFits-step d interp state x lawful fits h k.0) k.1
    (keeps d abs none (record { interp = interp; state = state; inputs = x }) (record { interp = fits; state = h; inputs = k.0 }) inside condition.Invariant) n

-- the first inputs of a fitting list fit
fit_first : (d : DesignView) (inputs : List (List Scalar)) (n : ℕ) → AllByRecursion (InputsFit d) inputs → AllByRecursion (InputsFit d) (take n inputs)
fit_first d inputs zero k = tt
fit_first d [] (suc n) k = tt
fit_first d (x ∷ xs) (suc n) k = (k.0, fit_first d xs n k.1)

-- each state of a fitting trail fits
pub StateFits-state_after : (d : DesignView) (t : Trail) → IsLawful d → TrailFits d t → (n : ℕ) → StateFits d (state_after d t n)
StateFits-state_after d t lawful fits n =
    StateFits-after d t.interp lawful fits.interp (take n t.inputs) t.state fits.state (fit_first d t.inputs n fits.inputs)

-- each cycle of a fitting trail is a fitting case
pub Fits-cycle : (d : DesignView) (t : Trail) → IsLawful d → TrailFits d t → (n : ℕ) → n < length t.inputs → Fits d (record { interp = t.interp; state = state_after d t n; inputs = inputs_at t n })
Fits-cycle d t lawful fits n h = record {
  interp = fits.interp;
  state = StateFits-state_after d t lawful fits n;
  inputs = All-from_recursion (InputsFit d) t.inputs fits.inputs n [] h;
}

right_by : (d : DesignView) (abs : Abstraction) → IsLawful d → NoCaseBreaksBy d abs → RightBy d abs
right_by d abs lawful none t fits inside =
    let stays : (n : ℕ) → MeetsInvariant d t.interp (state_after d t n) = stays_inside d abs lawful none t.interp fits.interp t.inputs t.state fits.state fits.inputs inside in (
      λ n h. stays n,
      follows d abs t.interp t.inputs t.state (λ n h. keeps d abs none _ (Fits-cycle d t lawful fits n h) (stays n) condition.Commute),
    )

-- the state after one cycle more
after-take_more : (d : DesignView) (interp : List Table) (inputs : List (List Scalar)) (state : List Value) (n : ℕ) → n < length inputs → after d interp state (take (suc n) inputs) ≡ step d.pipe interp (after d interp state (take n inputs)) (slice_index_or inputs n [])
after-take_more d interp [] state n h = absurd (omega (arith, h))
after-take_more d interp (x ∷ xs) state zero h = refl
after-take_more d interp (x ∷ xs) state (suc n) h = after-take_more d interp xs (step d.pipe interp state x) n (omega (arith, h))

sum-take_more : (counts : List ℕ) (n : ℕ) → n < length counts → sum (take (suc n) counts) ≡ sum (take n counts) + slice_index counts n
sum-take_more [] n h = absurd (omega (arith, h))
sum-take_more (j ∷ js) zero h = omega arith
sum-take_more (j ∷ js) (suc n) h =
    let more : sum (j ∷ take (suc n) js) ≡ j + sum (take (suc n) js) = sum_by-cons (λ m. m) j (take (suc n) js) in
    let before : sum (j ∷ take n js) ≡ j + sum (take n js) = sum_by-cons (λ m. m) j (take n js) in
    let rest : sum (take (suc n) js) ≡ sum (take n js) + slice_index js n = sum-take_more js n (omega (arith, h)) in
    more ∙ ap (λ m. j + m) rest ∙ omega (arith, before)

-- each cycle of a run that is followed commutes
pub commutes-followed : (d : DesignView) (abs : Abstraction) (t : Trail) (counts : List ℕ) → FollowsBy d abs t counts → (n : ℕ) → n < length t.inputs → CommutesBy d abs t.interp (state_after d t n) (inputs_at t n)
commutes-followed d abs t counts run n h =
    let i = sum (take n counts) in
    let j = slice_index counts n in
    let base = abs t.interp t.state in
    let within : n < length counts = omega (arith, h, run.each) in
    let led : Same (spec_steps j d t.interp (abs t.interp (state_after d t n))) (spec_steps (i + j) d t.interp base) =
    subst (λ a. Same (spec_steps j d t.interp (abs t.interp (state_after d t n))) a) (spec_steps-add j i d t.interp base)
    (Same-spec_steps j d t.interp _ _ (run.stands n (omega (arith, h)))) in
    let there : Same (abs t.interp (step d.pipe t.interp (state_after d t n) (inputs_at t n))) (spec_steps (i + j) d t.interp base) =
    subst (λ s. Same (abs t.interp s) (spec_steps (i + j) d t.interp base)) (after-take_more d t.interp t.inputs t.state n h)
    (subst (λ m. Same (abs t.interp (state_after d t (suc n))) (spec_steps m d t.interp base)) (sum-take_more counts n within) (run.stands (suc n) (omega (arith, h)))) in
    (j, run.few n h, (run.allowed n h, Same-trans _ _ _ there (Same-sym _ _ led)))

-- a pipeline that is right over the run of one cycle isn't broken by it
unbroken : (d : DesignView) (abs : Abstraction) → RightBy d abs → (c : Case) → Fits d c → MeetsInvariant d c.interp c.state → (which : Condition) → ConditionHoldsBy d abs c which
unbroken d abs right c fits inside which =
    let run = right (record { interp = c.interp; state = c.state; inputs = c.inputs ∷ [] }) (record { interp = fits.interp; state = fits.state; inputs = (fits.inputs, tt) }) inside in
    holds (run.0 1 (omega arith)) (commutes-followed d abs _ run.1.0 run.1.1 0 (omega arith)) which where
      holds : KeepsInvariant d c.interp c.state c.inputs → CommutesBy d abs c.interp c.state c.inputs → (which : Condition) → ConditionHoldsBy d abs c which
      holds kept commutes condition.Invariant = kept
      holds kept commutes condition.Commute = commutes

pub compose : CyclesComposeBy
compose d abs lawful = (right_by d abs lawful, λ right c which breaks. breaks.broken (unbroken d abs right c breaks.fits breaks.inside which))
