-- Where a design is right without steps, each cycle of it stands for 0 steps.
use Rattle.std.proofs.Common.{◌≡◌, ◌<◌, ℕ, Bool, true, List, [], ◌∷◌, ◌++◌, length, refl, sym, ◌∙◌, subst, inl, inr}
use Rattle.std.specs.List.{AllByRecursion}
use Rattle.bd_model.specs.DesignView.{DesignView, ExactView}
use Rattle.bd_model.specs.ExprView.{Truth}
use Rattle.bd_model.specs.Value.{env_of}
use Rattle.bd_model.specs.Cycle.{flushed}
use Rattle.bd_model.specs.Fits.{Fits}
use Rattle.bd_model.specs.Lawful.{IsLawful}
use Rattle.bd_model.specs.Right.{IsRight}
use Rattle.bd_model.specs.Conditions.{AllowsCount, StandsFor}
use Rattle.bd_model.specs.declared.case.Case.{Case}
use Rattle.bd_model.specs.declared.case.Condition.TheVariants.{Commute}
use Rattle.bd_model.proofs.Compose.{compose}
use Rattle.bd_model.proofs.Settled.{Commutes-settled}
use Rattle.bd_verify.specs.Verdict.{Says}
use Rattle.bd_verify.specs.declared.verdict.Verdict.{Verdict}
use Rattle.bd_verify.specs.declared.verdict.Verdict.TheVariants as verdict
use Rattle.bd_about.specs.Changed.{without_steps}
use Rattle.bd_about.specs.Findings.{IsFinding, NeverSteps, finding_of}
use Rattle.bd_about.specs.declared.asking.Finding.{Finding}
use Rattle.bd_about.specs.declared.asking.Finding.TheVariants as finding
use Rattle.bd_about.proofs.Changed.{without_steps_lawful}
use Rattle.bd_model.specs.Limits.{most_items}

front : {X : Type 0} (P : X → Type 0) (xs ys : List X) → AllByRecursion P (xs ++ ys) → AllByRecursion P xs
front P [] ys h = tt
front P (x ∷ xs) ys h = (h.0, front P xs ys h.1)

last : {X : Type 0} (P : X → Type 0) (xs : List X) (x : X) → AllByRecursion P (xs ++ x ∷ []) → P x
last P [] x h = h.0
last P (y ∷ ys) x h = last P ys x h.1

stands_still : (d : DesignView) (c : Case) (j : ℕ) → StandsFor (without_steps d) c.interp c.state c.inputs j → StandsFor d c.interp c.state c.inputs 0
stands_still d c j h =
    let item : ExactView = record { count = 0; when = Truth true } in
    let none : 0 ≡ j = last (AllowsCount (env_of d.pipe.locals c.interp c.state c.inputs) j) d.exact item h.0 refl in
    let now : StandsFor (without_steps d) c.interp c.state c.inputs 0 = subst (λ k. StandsFor (without_steps d) c.interp c.state c.inputs k) (sym none) h in
    (front (AllowsCount (env_of d.pipe.locals c.interp c.state c.inputs) 0) d.exact (item ∷ []) now.0, now.1)

pub never_steps : (d : DesignView) → IsLawful d → length d.exact < most_items → IsRight (without_steps d) → NeverSteps d
never_steps d lawful room right c fits inside =
    let e = without_steps d in
    let fits_still : Fits e c = record { interp = record { tables = fits.interp.tables; apart = fits.interp.apart }; state = fits.state; inputs = fits.inputs } in
    elim (Commutes-settled e (flushed e) c.interp c.state c.inputs) [
      | inl commutes ↦ stands_still d c commutes.0 commutes.2
      | inr refuted ↦ absurd ((compose e (flushed e) (without_steps_lawful d lawful room)).1 right c Commute (record { fits = fits_still; inside = inside; broken = refuted }))
    ]

right_of : (d : DesignView) (given : Bool) (v : Verdict) → finding.Right ≡ finding_of v → Says d given v → IsRight d
right_of d given (verdict.Correct c work) is says = says.0
right_of d given (verdict.Wrong which c work) is says = absurd (cc is)
right_of d given (verdict.Void work) is says = absurd (cc is)
right_of d given (verdict.Undecided asked work) is says = absurd (cc is)

pub found_still : (d : DesignView) (given : Bool) (f : Finding) → IsLawful d → length d.exact < most_items → IsFinding (without_steps d) given f → f ≡ finding.Right → NeverSteps d
found_still d given f lawful room found is = never_steps d lawful room (right_of (without_steps d) given found.verdict (sym is ∙ found.is) found.says)
