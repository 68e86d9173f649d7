-- What differs in two cases of a design: after each number of steps, the entries and addresses at which the
-- specification and the pipeline part.
use Rattle.std.specs.Prelude.{◌≡◌, ◌↔◌, ◌≤◌, ℕ}
use Rattle.std.specs.List.{AllZip}
use Rattle.bd_model.specs.DesignView.{DesignView}
use Rattle.bd_model.specs.Conditions.{IsAllowed}
use Rattle.bd_model.specs.declared.case.Case.{Case}
use Rattle.bd_diagram.specs.Differs.{differences}
use Rattle.bd_diagram.specs.Diagrams.{stands_at, reached_by}
use Rattle.bd_diagram.specs.declared.comparison.Comparison.{Comparison}
use Rattle.bd_diagram.specs.declared.difference.Difference.{Difference}

abbrev pub IsSameDifference : Difference → Difference → Type 0
IsSameDifference e f = f ≡ e

-- two comparisons say the same of a number of steps
pub record IsAlike (x y : Comparison) : Type 0 where
  pub allowed : y.allowed ≡ x.allowed
  pub differences : AllZip IsSameDifference x.differences y.differences

-- after j steps the same differs in both cases, and j steps are allowed in both or in none
pub record DiffersAlikeAfter (d : DesignView) (c s : Case) (j : ℕ) : Type 0 where
  pub allowed :
      IsAllowed d c.interp c.state c.inputs j ↔ IsAllowed d s.interp s.state s.inputs j
  pub differences :
      differences (stands_at d s) (reached_by d s j)
      ≡ differences (stands_at d c) (reached_by d c j)

-- the same differs in both cases, after each number of steps
abbrev pub DiffersAlike : DesignView → Case → Case → Type 0
DiffersAlike d c s = (j : ℕ) → j ≤ d.steps → DiffersAlikeAfter d c s j
