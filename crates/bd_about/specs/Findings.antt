-- What is found of a design and of changed ones.
use Rattle.std.specs.Prelude.{◌≡◌, ◌<◌, ◌≤◌, ◌⊎◌, Bool, true, false, length, Some, MatchOption}
use Rattle.bd_model.specs.DesignView.{DesignView}
use Rattle.bd_model.specs.Fits.{Fits}
use Rattle.bd_model.specs.Conditions.{MeetsInvariant, StandsFor}
use Rattle.bd_model.specs.declared.case.Case.{Case}
use Rattle.bd_verify.specs.Verdict.{HasWork, Says}
use Rattle.bd_verify.specs.declared.verdict.Mode.TheVariants.{Diverse}
use Rattle.bd_verify.specs.declared.verdict.Verdict.{Verdict}
use Rattle.bd_verify.specs.declared.verdict.Verdict.TheVariants as verdict
use Rattle.bd_about.specs.Changed.{less_flushed, more_flushed, more_steps, without_invariant, without_steps}
use Rattle.bd_about.specs.Reset.{reset_meets}
use Rattle.bd_about.specs.declared.asking.Finding.{Finding}
use Rattle.bd_about.specs.declared.asking.Finding.TheVariants as finding
use Rattle.bd_about.specs.declared.asking.Findings.{Findings}
use Rattle.bd_model.specs.Limits.{most_items}

abbrev pub finding_of : Verdict → Finding
finding_of (verdict.Correct c work) = finding.Right
finding_of (verdict.Wrong which c work) = finding.Wrong which
finding_of (verdict.Void work) = finding.Void
finding_of (verdict.Undecided asked work) = finding.Undecided

-- the finding of a verdict that is true of the design, worked out in diverse mode with the default budget
pub record IsFinding (d : DesignView) (given : Bool) (f : Finding) : Type 0 where
  pub verdict : Verdict
  pub is : f ≡ finding_of verdict
  pub says : Says d given verdict
  pub work : HasWork d Diverse 200000 verdict

-- in each fitting case that meets the invariant the cycle stands for 0 steps
abbrev pub NeverSteps : DesignView → Type 0
NeverSteps d = (c : Case) → Fits d c → MeetsInvariant d c.interp c.state →
    StandsFor d c.interp c.state c.inputs 0

-- a case that breaks a condition was found
abbrev pub is_wrong : Finding → Bool
is_wrong (finding.Wrong which) = true
is_wrong _ = false

-- The findings on a design, with one flush cycle less, where it is wrong with one flush cycle more and with one step
-- more, without the invariant, and without steps, each where the changed design is within the limits; and whether the
-- state after reset meets a given invariant. Where the design without steps is right, each cycle stands for 0 steps.
pub record AreFindings (d : DesignView) (given : Bool) (r : Findings) : Type 0 where
  pub own : IsFinding d given r.own
  pub less_flushed : MatchOption r.less_flushed (d.flush ≡ 0)
      (λ f. (0 < d.flush) × IsFinding (less_flushed d) given f)
  pub more_flushed : MatchOption r.more_flushed ((is_wrong r.own ≡ false) ⊎ (64 ≤ d.flush))
      (λ f. (is_wrong r.own ≡ true) × (d.flush < 64) × IsFinding (more_flushed d) given f)
  pub more_steps : MatchOption r.more_steps ((is_wrong r.own ≡ false) ⊎ (8 ≤ d.steps))
      (λ f. (is_wrong r.own ≡ true) × (d.steps < 8) × IsFinding (more_steps d) given f)
  pub without_invariant : MatchOption r.without_invariant (given ≡ false)
      (λ f. (given ≡ true) × IsFinding (without_invariant d) false f)
  pub reset : MatchOption r.reset (given ≡ false)
      (λ meets. (given ≡ true) × (meets ≡ reset_meets d))
  pub without_steps : MatchOption r.without_steps (most_items ≤ length d.exact)
      (λ f. (length d.exact < most_items) × IsFinding (without_steps d) given f)
  pub never_steps : r.without_steps ≡ Some finding.Right → NeverSteps d
