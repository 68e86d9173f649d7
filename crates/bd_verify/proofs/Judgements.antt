-- What no broken case and a broken one say of judgements by any abstraction, and what verdicts say.
use Rattle.std.proofs.Common.{◌≡◌, ℕ, Bool, true, Option, Some, Result, Ok, Err, IfOk, inl, inr, refl, sym, subst}
use Rattle.std.specs.declared.alloc.AllocError.{AllocError}
use Rattle.std.proofs.lemmas.Option.{same_Some}
use Rattle.bd_model.specs.DesignView.{DesignView}
use Rattle.bd_model.specs.Cycle.{flushed}
use Rattle.bd_model.specs.Fits.{Fits}
use Rattle.bd_model.specs.Lawful.{IsLawful}
use Rattle.bd_model.specs.Right.{IsRight, RightBy}
use Rattle.bd_model.specs.Conditions.{Abstraction, BreaksBy, IsJudged, JudgedBy, MeetsInvariant, SomeCaseMeetsInvariant}
use Rattle.bd_model.specs.declared.case.Case.{Case}
use Rattle.bd_model.specs.declared.case.Condition.{Condition}
use Rattle.bd_model.specs.declared.case.Condition.TheVariants.{Invariant, Commute}
use Rattle.bd_model.specs.declared.case.Judged.{Judged}
use Rattle.bd_model.specs.declared.case.Judged.TheVariants.{Holds, Outside, Broken}
use Rattle.bd_model.proofs.Compose.{compose}
use Rattle.bd_model.proofs.Settled.{IsTrue-settled, Commutes-settled}
use Rattle.bd_goal.specs.Laws.{BreaksSome}
use Rattle.bd_verify.specs.declared.verdict.Mode.{Mode}
use Rattle.bd_verify.specs.declared.verdict.Question.TheVariants as question
use Rattle.bd_verify.specs.declared.verdict.Verdict.{Verdict}
use Rattle.bd_verify.specs.declared.verdict.Verdict.TheVariants.{Correct, Wrong, Void, Undecided}
use Rattle.bd_verify.specs.declared.verdict.Work.{Work}
use Rattle.bd_verify.specs.Verdict.{IsAsked, Says}
use Rattle.bd_verify.specs.inner.Answered.{IsFound}

-- where no case breaks a condition by an abstraction the design is right by it
pub right-unless-by : (d : DesignView) (abs : Abstraction) → IsLawful d → ((c : Case) → Fits d c → BreaksSome d abs c → ⊥) → RightBy d abs
right-unless-by d abs lawful none = (compose d abs lawful).0 (λ c which b. none c b.fits (which, b))

-- and a case that meets the invariant is judged to hold
pub holds-unless : (d : DesignView) (abs : Abstraction) (c : Case) → Fits d c → MeetsInvariant d c.interp c.state → (BreaksSome d abs c → ⊥) → JudgedBy d abs c Holds
holds-unless d abs c fits inside none = elim (IsTrue-settled _) [
  | inl kept ↦ elim (Commutes-settled d abs c.interp c.state c.inputs) [
    | inl commutes ↦ (inside, kept, commutes)
    | inr breaks ↦ absurd (none (Commute, record { fits = fits; inside = inside; broken = breaks }))
  ]
  | inr lost ↦ absurd (none (Invariant, record { fits = fits; inside = inside; broken = lost }))
]

-- a case that breaks a condition is judged to break one
pub broken-judged : (d : DesignView) (abs : Abstraction) (c : Case) (j : Judged) → JudgedBy d abs c j → BreaksSome d abs c → (which : Condition) × (j ≡ Broken which)
broken-judged d abs c Outside judged asked = absurd (judged asked.1.inside)
broken-judged d abs c (Broken which) judged asked = (which, refl)
broken-judged d abs c Holds judged (Invariant, b) = absurd (b.broken judged.1)
broken-judged d abs c Holds judged (Commute, b) = absurd (b.broken judged.2)

-- a case that is judged to break a condition breaks it
pub broken-breaks : (d : DesignView) (abs : Abstraction) (c : Case) (which : Condition) → Fits d c → JudgedBy d abs c (Broken which) → BreaksBy d abs c which
broken-breaks d abs c Invariant fits judged = record { fits = fits; inside = judged.0; broken = judged.1 }
broken-breaks d abs c Commute fits judged = record { fits = fits; inside = judged.0; broken = judged.2 }

-- so no design that is right by an abstraction has a case that is judged to break a condition by it
pub right-unbroken : (d : DesignView) (abs : Abstraction) → IsLawful d → RightBy d abs → (c : Case) (which : Condition) → Fits d c → JudgedBy d abs c (Broken which) → ⊥
right-unbroken d abs lawful right c which fits judged = (compose d abs lawful).1 right c which (broken-breaks d abs c which fits judged)

-- and none whose invariant no case meets
pub broken-inside : (d : DesignView) (abs : Abstraction) (c : Case) (which : Condition) → Fits d c → JudgedBy d abs c (Broken which) → SomeCaseMeetsInvariant d
broken-inside d abs c which fits judged = (c, fits, (broken-breaks d abs c which fits judged).inside)

-- flushing is such an abstraction
pub right-unless : (d : DesignView) → IsLawful d → ((c : Case) → Fits d c → IsAsked question.Breaks d c → ⊥) → IsRight d
right-unless d = right-unless-by d (flushed d)

pub right-found : (d : DesignView) (m : Mode) (budget : ℕ) (met carried : Option Case) (work : Work) → IsLawful d → IsFound d m budget met (Correct carried work) → IsRight d
right-found d m budget met carried work lawful found = right-unless d lawful found.1

pub holds-found : (d : DesignView) (m : Mode) (budget : ℕ) (met c : Case) (work : Work) → Fits d met → MeetsInvariant d met.interp met.state → IsFound d m budget (Some met) (Correct (Some c) work) → Fits d c × IsJudged d c Holds
holds-found d m budget met c work fits inside found =
    let same : met ≡ c = sym (same_Some c met found.0) in
    subst (λ k. Fits d k × IsJudged d k Holds) same (fits, holds-unless d (flushed d) met fits inside (found.1 met fits))

-- what a verdict says, where a given invariant is met
pub says-found : (d : DesignView) (m : Mode) (budget : ℕ) (given : Bool) (met : Option Case) (v : Verdict) → IsLawful d → (given ≡ true → SomeCaseMeetsInvariant d) → IsFound d m budget met v → Says d given v
says-found d m budget given met (Correct c work) lawful some found = (right-unless d lawful found.1, some)
says-found d m budget given met (Wrong which c work) lawful some found = (found.0, found.1)
says-found d m budget given met (Void work) lawful some found = absurd found
says-found d m budget given met (Undecided asked work) lawful some found = tt

pub says-result : (d : DesignView) (m : Mode) (budget : ℕ) (given : Bool) (met : Option Case) (r : Result Verdict AllocError) → IsLawful d → (given ≡ true → SomeCaseMeetsInvariant d) → IfOk r (IsFound d m budget met) → IfOk r (Says d given)
says-result d m budget given met (Ok v) lawful some found = says-found d m budget given met v lawful some found
says-result d m budget given met (Err error) lawful some found = tt
