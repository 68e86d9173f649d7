-- What each question is answered.
use Rattle.std.specs.Prelude.{◌≡◌, ◌<◌, ◌≤◌, ◌⊎◌, ℕ, Bool, true, false, length, Option, Some, MatchOption}
use Rattle.bd_model.specs.DesignView.{DesignView}
use Rattle.bd_about.specs.Changed.{less_flushed, more_flushed, more_steps, without_invariant, without_steps}
use Rattle.bd_about.specs.Findings.{IsFinding, NeverSteps, is_wrong}
use Rattle.bd_about.specs.Reset.{reset_meets}
use Rattle.bd_about.specs.declared.asking.Finding.{Finding}
use Rattle.bd_about.specs.declared.asking.Finding.TheVariants.{Right}
use Rattle.bd_model.specs.Limits.{most_items}

-- the design with so many flush cycles and steps
abbrev pub with_counts : DesignView → (flush steps : ℕ) → DesignView
with_counts d flush steps = record d { flush = flush; steps = steps }

pub record IsLessFlushed (d : DesignView) (given : Bool) (found : Option Finding) : Type 0 where
  pub finding : MatchOption found (d.flush ≡ 0) (λ f. (0 < d.flush) × IsFinding (less_flushed d) given f)

pub record IsMoreFlushed (d : DesignView) (given : Bool) (own : Finding) (found : Option Finding) : Type 0 where
  pub finding : MatchOption found ((is_wrong own ≡ false) ⊎ (64 ≤ d.flush))
      (λ f. (is_wrong own ≡ true) × (d.flush < 64) × IsFinding (more_flushed d) given f)

pub record IsMoreSteps (d : DesignView) (given : Bool) (own : Finding) (found : Option Finding) : Type 0 where
  pub finding : MatchOption found ((is_wrong own ≡ false) ⊎ (8 ≤ d.steps))
      (λ f. (is_wrong own ≡ true) × (d.steps < 8) × IsFinding (more_steps d) given f)

pub record IsWithoutInvariant (d : DesignView) (given : Bool) (found : Option Finding) : Type 0 where
  pub finding : MatchOption found (given ≡ false) (λ f. (given ≡ true) × IsFinding (without_invariant d) false f)

pub record IsReset (d : DesignView) (given : Bool) (meets : Option Bool) : Type 0 where
  pub met : MatchOption meets (given ≡ false) (λ m. (given ≡ true) × (m ≡ reset_meets d))

pub record IsWithoutSteps (d : DesignView) (given : Bool) (found : Option Finding) : Type 0 where
  pub finding : MatchOption found (most_items ≤ length d.exact)
      (λ f. (length d.exact < most_items) × IsFinding (without_steps d) given f)
  pub never_steps : found ≡ Some Right → NeverSteps d
