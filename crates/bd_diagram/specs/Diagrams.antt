-- What stands behind the judgement of a case: the pipeline flushed before the cycle and after it, and the
-- specification's steps between (the commuting diagram of Burch and Dill 1994).
use Rattle.std.specs.Prelude.{◌≡◌, ◌↔◌, ℕ, suc, true, IsTrue, List, [], ◌∷◌, length, slice_get, Some}
use Rattle.bd_model.specs.DesignView.{DesignView}
use Rattle.bd_model.specs.Value.{let_values}
use Rattle.bd_model.specs.Cycle.{step, flushed, spec_steps}
use Rattle.bd_model.specs.Same.{Same}
use Rattle.bd_model.specs.Conditions.{Abstraction, IsAllowed}
use Rattle.bd_model.specs.declared.table.Value.{Value}
use Rattle.bd_model.specs.declared.case.Case.{Case}
use Rattle.bd_diagram.specs.Flushes.{IsFlushing}
use Rattle.bd_diagram.specs.Differs.{differences}
use Rattle.bd_diagram.specs.declared.comparison.Comparison.{Comparison}
use Rattle.bd_diagram.specs.declared.diagram.Diagram.{Diagram}

-- the state after the case's cycle
abbrev pub next_state : DesignView → Case → List Value
next_state d c = step d.pipe c.interp c.state c.inputs

-- what is visible once the pipeline is flushed after the case's cycle
abbrev pub stands_at : DesignView → Case → List Value
stands_at d c = flushed d c.interp (next_state d c)

-- what is visible after j steps of the specification, from where the pipeline is flushed before the cycle
abbrev pub reached_by : DesignView → Case → ℕ → List Value
reached_by d c j = spec_steps j d c.interp (flushed d c.interp c.state)

-- j steps of the specification from what the pipeline's state stands for before the cycle, compared with what its state
-- stands for after it
pub record IsComparisonOf (d : DesignView) (c : Case) (first stands : List Value) (j : ℕ)
    (x : Comparison) : Type 0 where
  pub visible : x.visible ≡ spec_steps j d c.interp first
  pub allowed : IsTrue x.allowed ↔ IsAllowed d c.interp c.state c.inputs j
  pub same : IsTrue x.same ↔ Same stands (spec_steps j d c.interp first)
  pub differences : x.differences ≡ differences stands (spec_steps j d c.interp first)

-- each place of a list has the comparison of so many steps
abbrev pub AreComparisonsOf :
    DesignView → Case → List Value → List Value → List Comparison → Type 0
AreComparisonsOf d c first stands xs =
    (j : ℕ) (x : Comparison) → slice_get xs j ≡ Some x → IsComparisonOf d c first stands j x

-- the same where a state stands for what is visible once the pipeline is flushed
abbrev pub IsComparison : DesignView → Case → ℕ → Comparison → Type 0
IsComparison d c j x = IsComparisonOf d c (flushed d c.interp c.state) (stands_at d c) j x

abbrev pub AreComparisons : DesignView → Case → List Comparison → Type 0
AreComparisons d c xs = AreComparisonsOf d c (flushed d c.interp c.state) (stands_at d c) xs

-- the diagram of a case
pub record IsDiagram (d : DesignView) (c : Case) (g : Diagram) : Type 0 where
  pub before : IsFlushing d c.interp c.state g.before
  pub after : IsFlushing d c.interp (next_state d c) g.after
  pub lets : g.lets ≡ let_values c.interp c.state c.inputs d.pipe.locals
  pub visible : g.visible ≡ stands_at d c
  pub counts : length g.comparisons ≡ suc d.steps
  pub comparisons : AreComparisons d c g.comparisons

-- the diagram of a case by an abstraction, in place of flushing: the states before the cycle and after it alone, and the
-- specification's steps between what these stand for
pub record IsDiagramBy (d : DesignView) (abs : Abstraction) (c : Case) (g : Diagram) : Type 0 where
  pub before : g.before.states ≡ c.state ∷ []
  pub after : g.after.states ≡ next_state d c ∷ []
  pub lets : g.lets ≡ let_values c.interp c.state c.inputs d.pipe.locals
  pub visible : g.visible ≡ abs c.interp (next_state d c)
  pub counts : length g.comparisons ≡ suc d.steps
  pub comparisons :
      AreComparisonsOf d c (abs c.interp c.state) (abs c.interp (next_state d c)) g.comparisons

-- what a state stands for by an abstraction, compared with what is visible once the pipeline is flushed
pub record IsOther (flush other : List Value) (x : Comparison) : Type 0 where
  pub visible : x.visible ≡ other
  pub allowed : x.allowed ≡ true
  pub same : IsTrue x.same ↔ Same flush other
  pub differences : x.differences ≡ differences flush other

-- flushing and an abstraction in a case's state: the way down from it, and its end compared with what the abstraction
-- gives
pub record IsContrast (d : DesignView) (abs : Abstraction) (c : Case) (g : Diagram) : Type 0 where
  pub before : IsFlushing d c.interp c.state g.before
  pub after : g.after.states ≡ []
  pub lets : g.lets ≡ []
  pub visible : g.visible ≡ flushed d c.interp c.state
  pub other : Comparison
  pub is_other : IsOther (flushed d c.interp c.state) (abs c.interp c.state) other
  pub comparisons : g.comparisons ≡ other ∷ []
