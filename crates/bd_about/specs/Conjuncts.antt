-- What is found without each conjunct of the invariant, and its lines.
use Rattle.std.specs.Prelude.{◌≡◌, ◌+◌, ◌++◌, ◌&&◌, ℕ, Bool, List, [], ◌∷◌, codes, length, slice_get, Some, if◌then◌else◌}
use Rattle.bd_model.specs.DesignView.{DesignView}
use Rattle.bd_about.specs.Changed.{conjunct_count, without_conjunct}
use Rattle.bd_about.specs.Findings.{IsFinding}
use Rattle.bd_about.specs.Lines.{finding_line, is_right}
use Rattle.bd_about.specs.PartLines.{counted}
use Rattle.bd_about.specs.declared.asking.Finding.{Finding}

-- how many conjuncts are asked about: all of a given invariant with which the pipeline is right
abbrev pub asked_conjuncts : DesignView → Bool → Finding → ℕ
asked_conjuncts d given own = if given && is_right own then conjunct_count d.inv else 0

-- the findings without each of them, the first conjunct first
pub record AreConjuncts (d : DesignView) (given : Bool) (own : Finding) (found : List Finding) :
    Type 0 where
  pub count : length found ≡ asked_conjuncts d given own
  pub each : (i : ℕ) (f : Finding) → slice_get found i ≡ Some f →
      IsFinding (without_conjunct d i) given f

-- the line of a conjunct, by its number from 1, and what it means
abbrev pub conjunct_meaning : Finding → List ℕ
conjunct_meaning found = if is_right found then codes ", so this conjunct can be left out" else []

abbrev pub conjunct_line : ℕ → Finding → List ℕ
conjunct_line n found =
    counted (codes "no conjunct ") n ++ finding_line (codes "    ") found (conjunct_meaning found)

abbrev pub conjunct_lines : ℕ → List Finding → List ℕ
conjunct_lines n [] = []
conjunct_lines n (found ∷ more) = conjunct_line n found ++ conjunct_lines (n + 1) more
