-- Less at one place.
use Rattle.std.proofs.Common.{Vec, Global, Result, Ok, Err, Option, None, IfOk, MatchOption, ◌≡◌, ◌↔◌, ℕ, ◌<◌, ◌≤◌, Bool, List, IsTrue, length, get_or, sum_by, sym, ◌∙◌, ap, subst, arith}
use Rattle.std.specs.Prelude.{Some, slice_get, slice_set}
use Rattle.std.specs.declared.alloc.AllocError.{AllocError}
use Rattle.std.proofs.lemmas.Option.{slice_get_within, slice_get-get_or, get_or_from_slice_get}
use Rattle.std.proofs.lemmas.List.Sums.{sum_by-set}
use Rattle.bd_model.specs.DesignView.{DesignView, design_view}
use Rattle.bd_model.specs.Fits.{Fits}
use Rattle.bd_model.specs.Conditions.{IsJudged}
use Rattle.bd_model.specs.declared.case.Case.{Case}
use Rattle.bd_model.specs.declared.case.Condition.{Condition}
use Rattle.bd_model.specs.declared.case.Judged.{Judged}
use Rattle.bd_model.specs.declared.case.Judged.TheVariants as judged
use Rattle.bd_shrink.specs.Remnant.{remnant}
use Rattle.bd_shrink.specs.Shrunk.{Shows, Keeps, leaves, IsSmall, IsShrunk}
use Rattle.bd_shrink.specs.inner.Asked.{ShowsBy, IsLeast, IsLowered}
use Rattle.bd_shrink.specs.declared.fate.Fate.{Fate}
use Rattle.bd_shrink.specs.declared.fate.Fate.TheVariants.{Stays, Zero, Gone}
use Rattle.bd_shrink.specs.declared.search.ShrinkGoal.{ShrinkGoal}

-- what a judgement tells of a case that fits
shown : (d : DesignView) (whole c : Case) (j : Judged) (which : Condition) (b k : Bool) → Fits d c → IsJudged d c j → (IsTrue b ↔ (j ≡ judged.Broken which)) → IsTrue b
    → (IsTrue k ↔ Keeps d whole c which) → IsTrue k ↔ Shows d whole c which
shown d whole c j which b k fits is answer broken keeps = (
  λ t. record { fits = fits; judged = subst (λ x. IsJudged d c x) (answer.0 broken) is; keeps = keeps.0 t },
  λ h. keeps.1 h.keeps,
)

pub shown_by : (d : DesignView) (whole c : Case) (j : Judged) (which : Condition) (b : Bool) (r : Result Bool AllocError) → Fits d c → IsJudged d c j → (IsTrue b ↔ (j ≡ judged.Broken which)) → IsTrue b
    → IfOk r (λ k. IsTrue k ↔ Keeps d whole c which) → IfOk r (λ k. IsTrue k ↔ Shows d whole c which)
shown_by d whole c j which b (Ok k) fits is answer broken h = shown d whole c j which b k fits is answer broken h
shown_by d whole c j which b (Err e) fits is answer broken h = h

most : (f : Fate) → leaves f ≤ 2
most Stays = omega arith
most Zero = omega arith
most Gone = omega arith

-- no fate leaves less than one that goes, and what stays can become 0 or go
least_stays : (q : ShrinkGoal) (fates : List Fate) (i : ℕ) → ¬ ShowsBy q (slice_set fates i Gone) → ¬ ShowsBy q (slice_set fates i Zero) → (f g : Fate) → leaves g < leaves f → ¬ ShowsBy q (slice_set fates i g)
least_stays q fates i gone zero f Stays lower = absurd (omega (arith, most f, lower))
least_stays q fates i gone zero f Zero lower = zero
least_stays q fates i gone zero f Gone lower = gone

least_zero : (q : ShrinkGoal) (fates : List Fate) (i : ℕ) → ¬ ShowsBy q (slice_set fates i Gone) → (f g : Fate) → f ≡ Zero → leaves g < leaves f → ¬ ShowsBy q (slice_set fates i g)
least_zero q fates i gone f Stays is lower = absurd (let same = ap leaves is in omega (arith, same, lower))
least_zero q fates i gone f Zero is lower = absurd (let same = ap leaves is in omega (arith, same, lower))
least_zero q fates i gone f Gone is lower = gone

only : (fates : List Fate) (i : ℕ) (x f : Fate) → get_or fates i x ≡ x → slice_get fates i ≡ Some f → f ≡ x
only fates i x f is had = sym (get_or_from_slice_get fates i f x had) ∙ is

pub least_gone : (q : ShrinkGoal) (fates : List Fate) (i : ℕ) → get_or fates i Gone ≡ Gone → IsLeast q fates i
least_gone q fates i is = record {
  least = λ f g had lower. absurd (let same = ap leaves (only fates i Gone f is had) in omega (arith, same, lower));
}

-- there is less at a place, and it is still shown
pub lower_at : (q : ShrinkGoal) (fates less : List Fate) (i : ℕ) (old new : Fate) → i < length fates → get_or fates i old ≡ old → leaves new < leaves old → less ≡ slice_set fates i new → ShowsBy q less
    → IsLowered q fates less
lower_at q fates less i old new within is lower set shows = record {
  place = i;
  old = old;
  new = new;
  had = slice_get-get_or fates i old within ∙ ap (λ x. Some x) is;
  lower = lower;
  set = set;
  shows = shows;
}

-- then less is left in all
pub smaller : (q : ShrinkGoal) (fates less : List Fate) → IsLowered q fates less → sum_by leaves less < sum_by leaves fates
smaller q fates less h =
    let within = slice_get_within fates h.place h.old h.had in
    let set = sum_by-set leaves fates h.place h.new h.old within in
    let had = ap leaves (get_or_from_slice_get fates h.place h.old h.old h.had) in
    let same = ap (sum_by leaves) h.set in
    let lower = h.lower in
    omega (arith, set, had, same, lower)

-- where no place has less, the fates are small
pub small : (q : ShrinkGoal) (fates : List Fate) (n : ℕ) → length fates ≤ n → ((i : ℕ) → i < n → IsLeast q fates i) → IsSmall (design_view q.design.now) q.case.now q.which fates
small q fates n all h i f g had lower =
    let within = slice_get_within fates i f had in
    (h i (omega (arith, within, all))).least f g had lower

-- what a test of fates tells, seen as a slice
pub told : (q : ShrinkGoal) (xs ys : List Fate) (b : Bool) → xs ≡ ys → (IsTrue b ↔ ShowsBy q xs) → IsTrue b ↔ ShowsBy q ys
told q xs ys b same h = subst (λ (zs : List Fate). IsTrue b ↔ ShowsBy q zs) same h

-- what is read
pub read_as : (fates : List Fate) (i : ℕ) (r x : Fate) → r ≡ get_or fates i r → r ≡ x → get_or fates i x ≡ x
read_as fates i r x read is = sym (subst (λ (y : Fate). y ≡ get_or fates i y) is read)

-- what is left is a small case
pub shrunk : (d : DesignView) (c : Case) (which : Condition) (fates items : List Fate) (r : Result Case AllocError) → items ≡ fates → Shows d c (remnant fates c) which → IsSmall d c which fates
    → IfOk r (λ s. s ≡ remnant items c) → IfOk r (λ s. IsShrunk d c which s)
shrunk d c which fates items (Ok s) same shows small h =
    let left : s ≡ remnant fates c = h ∙ ap (λ (fs : List Fate). remnant fs c) same in
    record { fates = fates; left = left; shows = subst (λ (k : Case). Shows d c k which) (sym left) shows; small = small }
shrunk d c which fates items (Err e) same shows small h = h

-- ---- what a try of less tells

abbrev Tried : ShrinkGoal → List Fate → ℕ → Fate → Result (Option (Vec Fate Global)) AllocError → Type 0
Tried q fates i g r =
    IfOk r (λ found. MatchOption found (¬ ShowsBy q (slice_set fates i g)) (λ less. (less.items ≡ slice_set fates i g) × ShowsBy q less.items))

abbrev Told : ShrinkGoal → List Fate → ℕ → Result (Option (Vec Fate Global)) AllocError → Type 0
Told q fates i r = IfOk r (λ found. MatchOption found (IsLeast q fates i) (λ less. IsLowered q fates less.items))

pub zero_last : (q : ShrinkGoal) (fates : List Fate) (i : ℕ) → i < length fates → get_or fates i Stays ≡ Stays → ¬ ShowsBy q (slice_set fates i Gone) → (r : Result (Option (Vec Fate Global)) AllocError)
    → Tried q fates i Zero r → Told q fates i r
zero_last q fates i within is gone (Ok None) h = record { least = λ f g had lower. least_stays q fates i gone h f g lower }
zero_last q fates i within is gone (Ok (Some less)) h = lower_at q fates less.items i Stays Zero within is (omega arith) h.0 h.1
zero_last q fates i within is gone (Err e) h = h

pub gone_last : (q : ShrinkGoal) (fates : List Fate) (i : ℕ) → i < length fates → get_or fates i Zero ≡ Zero → (r : Result (Option (Vec Fate Global)) AllocError) → Tried q fates i Gone r → Told q fates i r
gone_last q fates i within is (Ok None) h = record { least = λ f g had lower. least_zero q fates i h f g (only fates i Zero f is had) lower }
gone_last q fates i within is (Ok (Some less)) h = lower_at q fates less.items i Zero Gone within is (omega arith) h.0 h.1
gone_last q fates i within is (Err e) h = h
