-- A small case: what differs in the whole case differs in it, and in less of it no more.
use Rattle.std.specs.Prelude.{◌≡◌, ◌<◌, ℕ, List, slice_get, slice_set, Some}
use Rattle.bd_model.specs.DesignView.{DesignView}
use Rattle.bd_model.specs.Fits.{Fits}
use Rattle.bd_model.specs.Conditions.{IsJudged}
use Rattle.bd_model.specs.declared.case.Case.{Case}
use Rattle.bd_model.specs.declared.case.Condition.{Condition}
use Rattle.bd_model.specs.declared.case.Condition.TheVariants as condition
use Rattle.bd_model.specs.declared.case.Judged.TheVariants as judged
use Rattle.bd_diagram.specs.Alike.{DiffersAlike}
use Rattle.bd_shrink.specs.Apart.{differing_values}
use Rattle.bd_shrink.specs.Remnant.{remnant}
use Rattle.bd_shrink.specs.declared.fate.Fate.{Fate}
use Rattle.bd_shrink.specs.declared.fate.Fate.TheVariants.{Stays, Zero, Gone}

-- after each number of steps the same entries and addresses differ in both cases, and have the same values there
pub record KeepsDifferences (d : DesignView) (c s : Case) : Type 0 where
  pub places : DiffersAlike d c s
  pub values : differing_values d s ≡ differing_values d c

-- what has to stay of a case that breaks a condition; where that is the invariant, the specification is not looked at
abbrev pub Keeps : DesignView → Case → Case → Condition → Type 0
Keeps d c s condition.Invariant = Unit {0}
Keeps d c s condition.Commute = KeepsDifferences d c s

-- a case shows what the case does that it was made of: it fits, breaks the same condition, and the same differs
pub record Shows (d : DesignView) (c s : Case) (which : Condition) : Type 0 where
  pub fits : Fits d s
  pub judged : IsJudged d s (judged.Broken which)
  pub keeps : Keeps d c s which

-- how much a fate leaves of a row
abbrev pub leaves : Fate → ℕ
leaves Stays = 2
leaves Zero = 1
leaves Gone = 0

-- with less at any one place, what is left of the case no longer shows what the case does
abbrev pub IsSmall : DesignView → Case → Condition → List Fate → Type 0
IsSmall d c which fates =
    (i : ℕ) (f g : Fate) → slice_get fates i ≡ Some f → leaves g < leaves f →
    ¬ Shows d c (remnant (slice_set fates i g) c) which

-- some fates leave this of a case, it shows what the case does, and it is small
pub record IsShrunk (d : DesignView) (c : Case) (which : Condition) (s : Case) : Type 0 where
  pub fates : List Fate
  pub left : s ≡ remnant fates c
  pub shows : Shows d c s which
  pub small : IsSmall d c which fates
