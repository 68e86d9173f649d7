-- The laws of designs, cases and runs.
use Rattle.std.specs.Prelude.{◌≡◌, ◌↔◌, ◌≤◌, ℕ, length}
use Rattle.bd_model.specs.DesignView.{DesignView}
use Rattle.bd_model.specs.Fits.{Fits, TrailFits}
use Rattle.bd_model.specs.Lawful.{IsLawful}
use Rattle.bd_model.specs.Cycle.{flushed}
use Rattle.bd_model.specs.Conditions.{Abstraction, BreaksBy, JudgedBy}
use Rattle.bd_model.specs.Right.{RightBy, IsRight, BoundedRight, Agrees}
use Rattle.bd_model.specs.TrailJudged.{IsTrailJudged}
use Rattle.bd_model.specs.declared.case.Case.{Case}
use Rattle.bd_model.specs.declared.case.Condition.{Condition}
use Rattle.bd_model.specs.declared.case.Judged.{Judged}
use Rattle.bd_model.specs.declared.case.Judged.TheVariants as judged
use Rattle.bd_model.specs.declared.case.Trail.{Trail}
use Rattle.bd_model.specs.declared.case.TrailJudged.TheVariants as trail

-- no fitting case breaks a condition
abbrev pub NoCaseBreaksBy : DesignView → Abstraction → Type 0
NoCaseBreaksBy d abs = (c : Case) (which : Condition) → ¬ BreaksBy d abs c which

abbrev pub NoCaseBreaks : DesignView → Type 0
NoCaseBreaks d = NoCaseBreaksBy d (flushed d)

-- cycles compose: a pipeline is right over every run exactly where no single cycle breaks a condition
abbrev pub CyclesCompose : Type 0
CyclesCompose = (d : DesignView) → IsLawful d → NoCaseBreaks d ↔ IsRight d

-- the same of any abstraction
abbrev pub CyclesComposeBy : Type 0
CyclesComposeBy =
    (d : DesignView) (abs : Abstraction) → IsLawful d → NoCaseBreaksBy d abs ↔ RightBy d abs

-- a right pipeline is right by each abstraction that agrees with flushing
abbrev pub AgreementKeepsRight : Type 0
AgreementKeepsRight =
    (d : DesignView) (abs : Abstraction) → IsLawful d → Agrees d abs → IsRight d → RightBy d abs

-- a pipeline is right over so many cycles exactly where no fitting trail of at most so many is judged broken
abbrev pub TrailsDecide : Type 0
TrailsDecide =
    (d : DesignView) (cycles : ℕ) →
    ((t : Trail) → TrailFits d t → length t.inputs ≤ cycles →
    (cycle : ℕ) → ¬ IsTrailJudged d t (trail.Broken cycle))
    ↔ BoundedRight d cycles

-- no case is judged in two ways
abbrev pub JudgedOnce : Type 0
JudgedOnce =
    (d : DesignView) (abs : Abstraction) (c : Case) (i j : Judged) →
    JudgedBy d abs c i → JudgedBy d abs c j → i ≡ j

-- each case is judged in some way
abbrev pub AlwaysJudged : Type 0
AlwaysJudged =
    (d : DesignView) (abs : Abstraction) (c : Case) → (j : Judged) × JudgedBy d abs c j

-- a fitting case that is judged to break a condition breaks it
abbrev pub BrokenBreaks : Type 0
BrokenBreaks =
    (d : DesignView) (abs : Abstraction) (c : Case) (which : Condition) →
    Fits d c → JudgedBy d abs c (judged.Broken which) → BreaksBy d abs c which
