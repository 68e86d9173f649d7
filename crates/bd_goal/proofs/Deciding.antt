-- What makes a claim false decides which cases are such.
use Rattle.std.proofs.Common.{◌≡◌, ◌≢◌, ℕ, Bool, true, false, inl, inr, List, [], ◌∷◌, slice_index_or, refl, ap, sym, ◌∙◌, arith}
use Rattle.std.specs.Prelude.{IsTrue, if◌then◌else◌}
use Rattle.std.specs.List.{AllByRecursion, AllPairs}
use Rattle.bd_model.specs.Table.{at, row_value}
use Rattle.bd_model.specs.Value.{table_of, no_table, scalar_word}
use Rattle.bd_model.specs.DesignView.{DesignView}
use Rattle.bd_model.specs.Cycle.{flushed}
use Rattle.bd_model.specs.Same.{Same}
use Rattle.bd_model.specs.Fits.{scalar_sort, TableFits, KeepsApart, InterpFits, Fits}
use Rattle.bd_model.specs.Lawful.{IsLawfulGroup, IsConstant}
use Rattle.bd_model.specs.Conditions.{Abstraction, CommutesBy, KeepsInvariant, MeetsInvariant}
use Rattle.bd_model.specs.declared.case.Case.{Case}
use Rattle.bd_model.specs.declared.case.Condition.TheVariants as condition
use Rattle.bd_model.specs.declared.design.Sort.TheVariants as sort
use Rattle.bd_model.specs.declared.table.Scalar.{Scalar}
use Rattle.bd_model.specs.declared.table.Scalar.TheVariants as scalar
use Rattle.bd_model.specs.declared.table.Table.{Table}
use Rattle.bd_model.specs.declared.table.Value.{Value}
use Rattle.bd_model.proofs.Pairs.{AllZip-at}
use Rattle.bd_model.proofs.SameDecided.{same_values, same_values-Decides}
use Rattle.bd_model.proofs.Settled.{Settled, IsTrue-settled, Commutes-settled}
use Rattle.bd_terms.specs.Denotation.{truth, truth_of}
use Rattle.bd_terms.proofs.Resting.{denoted-alike}
use Rattle.bd_symbolic.specs.Widened.{HasLawfulSymbols}
use Rattle.bd_goal.specs.Formula.{Corresponds, IsOutside, AgreesAt}
use Rattle.bd_terms.specs.Valid.{IsValid, KeepsConstantsApart}
use Rattle.bd_goal.specs.Claims.{case_world}
use Rattle.bd_goal.specs.Laws.{BreaksSome, Differs, ClaimDecides}
use Rattle.bd_goal.proofs.Alike.{denoted-same}
use Rattle.bd_goal.proofs.Realized.{case_of, case_of-fits, each-at, known-gives, words_of}
use Rattle.bd_goal.proofs.Telling.{EqualFrom-Same, CommutesAt-any, told_commutes, told_pairs, told_same, told_words}

-- a word scalar is its word
word-of : (x y : Scalar) → scalar_sort x ≡ sort.Word → scalar_sort y ≡ sort.Word → scalar_word x ≡ scalar_word y → x ≡ y
word-of (scalar.Word m) (scalar.Word n) h k e = ap scalar.Word e
word-of (scalar.Bool b) y h k e = absurd (cc h)
word-of (scalar.Word m) (scalar.Bool c) h k e = absurd (cc k)

constant-sort : (d : DesignView) (interp : List Table) (f : ℕ) → InterpFits d interp → IsConstant d f → scalar_sort (table_of interp f).default ≡ sort.Word
constant-sort d interp f fits (y, there, arity, function) =
    (AllZip-at TableFits d.symbols interp no_table fits.tables f y there).default ∙ ap (λ (b : Bool). if b then sort.Bool else sort.Word) function

-- a table without rows is its default
at-no_rows : (t : Table) → t.rows ≡ [] → (args : List ℕ) → at t args ≡ t.default
at-no_rows t none args = ap (λ rs. row_value rs args t.default) none

words-differ : (d : DesignView) (interp : List Table) (f g : ℕ) → InterpFits d interp → IsConstant d f → IsConstant d g → (table_of interp f).rows ≡ [] → (table_of interp g).rows ≡ []
    → (table_of interp f).default ≢ (table_of interp g).default → scalar_word (at (table_of interp f) []) ≢ scalar_word (at (table_of interp g) [])
words-differ d interp f g fits a b p q differ same =
    differ (word-of (table_of interp f).default (table_of interp g).default (constant-sort d interp f fits a) (constant-sort d interp g fits b)
    (sym (ap scalar_word (at-no_rows (table_of interp f) p [])) ∙ same ∙ ap scalar_word (at-no_rows (table_of interp g) q [])))

groups-apart : (d : DesignView) (interp : List Table) → InterpFits d interp → (groups : List (List ℕ)) → AllByRecursion (IsLawfulGroup d) groups → AllByRecursion (KeepsApart interp) groups
    → AllByRecursion (AllPairs (λ f g. scalar_word (at (table_of interp f) []) ≢ scalar_word (at (table_of interp g) []))) groups
groups-apart d interp fits [] lawful h = tt
groups-apart d interp fits (group ∷ groups) lawful h = (
  λ i j e below within.
      let f : ℕ = slice_index_or group i e in
      let g : ℕ = slice_index_or group j e in
      words-differ d interp f g fits (each-at (IsConstant d) group lawful.0.constants i e (omega arith)) (each-at (IsConstant d) group lawful.0.constants j e within)
      (each-at (λ f. (table_of interp f).rows ≡ []) group h.0.no_rows i e (omega arith)) (each-at (λ f. (table_of interp f).rows ≡ []) group h.0.no_rows j e within) (h.0.different i j e below within),
  groups-apart d interp fits groups lawful.1 h.1,
)

-- the world of a fitting case keeps the constants apart
pub case_world-apart : (d : DesignView) (c : Case) (q : List ℕ) → HasLawfulSymbols d → Fits d c → KeepsConstantsApart d (case_world c q)
case_world-apart d c q lawful fits = groups-apart d c.interp fits.interp d.distinct lawful.distinct fits.interp.apart

-- A claim decides which cases are such where such a case makes it false with some addresses, and a case that makes it
-- false is such.
pub decides : (d : DesignView) (claim : Case → List ℕ → Type 0) (such : Case → Type 0) → HasLawfulSymbols d
    → ((c : Case) → such c → (q : List ℕ) × (¬ claim c q)) → ((c : Case) (q : List ℕ) → Fits d c → ¬ claim c q → such c) → ClaimDecides d claim such
decides d claim such lawful from to n nodes root g sorted known claims = record {
  valid = (λ valid c fits is. let found = from_case c fits is in found.2 (valid (case_world c found.0) found.1), always);
  from_case = from_case;
  to_case = λ c q w fits agree false_there.
      to c q fits (λ h. false_there (ap truth_of (denoted-alike w (case_world c q) nodes g root sorted.inside agree) ∙ (claims.means c q fits).1 h));
} where
  from_case : (c : Case) → Fits d c → such c → (q : List ℕ) × KeepsConstantsApart d (case_world c q) × (¬ IsTrue (truth (case_world c q) nodes root))
  from_case c fits is =
      let found = from c is in
      (found.0, case_world-apart d c found.0 lawful fits, λ holds. found.1 ((claims.means c found.0 fits).0 holds))

  always : ((c : Case) → Fits d c → ¬ such c) → IsValid d nodes root
  always none w apart =
      let c : Case = case_of d w in
      let q : List ℕ = words_of n w in
      let fits : Fits d c = case_of-fits d w lawful apart in
      let same : truth w nodes root ≡ truth (case_world c q) nodes root = ap truth_of (denoted-same w (case_world c q) nodes g root sorted.inside (λ u r. known-gives d n w lawful u (known.known u r))) in
      elim (IsTrue-settled (truth (case_world c q) nodes root)) [
        | inl holds ↦ same ∙ holds
        | inr fails ↦ absurd (none c fits (to c q fits (λ h. fails ((claims.means c q fits).1 h))))
      ]

-- a case that breaks a condition makes the correspondence formula false with words that tell its memories apart
pub breaks_from : (d : DesignView) (abs : Abstraction) (c : Case) → BreaksSome d abs c → (q : List ℕ) × (¬ Corresponds d abs c q)
breaks_from d abs c (condition.Invariant, breaks) = (told_words d abs c.interp c.state c.inputs 0, λ h. breaks.broken (h breaks.inside).0)
breaks_from d abs c (condition.Commute, breaks) = (told_words d abs c.interp c.state c.inputs 0, λ h. breaks.broken (told_commutes d abs c.interp c.state c.inputs 0 (h breaks.inside).1))

-- a case that makes it false breaks a condition
pub breaks_to : (d : DesignView) (abs : Abstraction) (c : Case) (q : List ℕ) → Fits d c → ¬ Corresponds d abs c q → BreaksSome d abs c
breaks_to d abs c q fits fails = by_inside (IsTrue-settled _) (IsTrue-settled _) (Commutes-settled d abs c.interp c.state c.inputs) where
  by_inside : Settled (MeetsInvariant d c.interp c.state) → Settled (KeepsInvariant d c.interp c.state c.inputs) → Settled (CommutesBy d abs c.interp c.state c.inputs) → BreaksSome d abs c
  by_inside (inr out) keeps commutes = absurd (fails (λ h. absurd (out h)))
  by_inside (inl inside) (inr broken) commutes = (condition.Invariant, record { fits = fits; inside = inside; broken = broken })
  by_inside (inl inside) (inl keeps) (inr broken) = (condition.Commute, record { fits = fits; inside = inside; broken = broken })
  by_inside (inl inside) (inl keeps) (inl commutes) = absurd (fails (λ _. (keeps, CommutesAt-any d abs c.interp c.state c.inputs 0 q commutes)))

pub meets_from : (d : DesignView) (c : Case) → MeetsInvariant d c.interp c.state → (q : List ℕ) × (¬ IsOutside d c q)
meets_from d c meets = ([], λ out. out meets)

pub meets_to : (d : DesignView) (c : Case) (q : List ℕ) → Fits d c → ¬ IsOutside d c q → MeetsInvariant d c.interp c.state
meets_to d c q fits h = by_inside (IsTrue-settled _) where
  by_inside : Settled (MeetsInvariant d c.interp c.state) → MeetsInvariant d c.interp c.state
  by_inside (inl inside) = inside
  by_inside (inr out) = absurd (h out)

pub differs_from : (d : DesignView) (abs : Abstraction) (c : Case) → Differs d abs c → (q : List ℕ) × (¬ AgreesAt d abs c q)
differs_from d abs c (meets, differ) =
    (told_pairs (abs c.interp c.state) (flushed d c.interp c.state), λ h. differ (told_same (abs c.interp c.state) (flushed d c.interp c.state) (h meets)))

same_or_not : (a b : List Value) → Settled (Same a b)
same_or_not a b = cases (same_values a b) refl where
  cases : (t : Bool) → same_values a b ≡ t → Settled (Same a b)
  cases true e = inl ((same_values-Decides a b).0 e)
  cases false e = inr (λ h. absurd (cc (e, (same_values-Decides a b).1 h)))

pub differs_to : (d : DesignView) (abs : Abstraction) (c : Case) (q : List ℕ) → Fits d c → ¬ AgreesAt d abs c q → Differs d abs c
differs_to d abs c q fits fails = by_inside (IsTrue-settled _) (same_or_not (abs c.interp c.state) (flushed d c.interp c.state)) where
  by_inside : Settled (MeetsInvariant d c.interp c.state) → Settled (Same (abs c.interp c.state) (flushed d c.interp c.state)) → Differs d abs c
  by_inside (inr out) same = absurd (fails (λ h. absurd (out h)))
  by_inside (inl inside) (inr differ) = (inside, differ)
  by_inside (inl inside) (inl same) = absurd (fails (λ _. EqualFrom-Same (λ m. slice_index_or q m 0) 0 (abs c.interp c.state) (flushed d c.interp c.state) same))
