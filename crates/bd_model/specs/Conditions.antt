-- What one cycle of a pipeline has to keep, and what a case shows of it: flushing before a cycle and after it
-- gives states that steps of the specification join (Burch and Dill 1994), with an invariant, with forced
-- numbers of steps, and with any abstraction in the place of flushing.
use Rattle.std.specs.Prelude.{◌≡◌, ◌≤◌, ℕ, IsTrue, List}
use Rattle.std.specs.List.{AllByRecursion}
use Rattle.bd_model.specs.DesignView.{DesignView, ExactView}
use Rattle.bd_model.specs.Value.{Env, value_of, env_of, is_true}
use Rattle.bd_model.specs.Cycle.{step, flushed, spec_steps, invariant}
use Rattle.bd_model.specs.Same.{Same}
use Rattle.bd_model.specs.Fits.{Fits}
use Rattle.bd_model.specs.declared.table.Scalar.{Scalar}
use Rattle.bd_model.specs.declared.table.Table.{Table}
use Rattle.bd_model.specs.declared.table.Value.{Value}
use Rattle.bd_model.specs.declared.case.Case.{Case}
use Rattle.bd_model.specs.declared.case.Condition.{Condition}
use Rattle.bd_model.specs.declared.case.Condition.TheVariants as condition
use Rattle.bd_model.specs.declared.case.Judged.{Judged}
use Rattle.bd_model.specs.declared.case.Judged.TheVariants as judged

-- what a state of the pipeline stands for in the specification, under an interpretation: what is visible once
-- the pipeline is flushed, or the values of one expression for each visible entry (completion functions)
abbrev pub Abstraction : Type 0
Abstraction = List Table → List Value → List Value

-- an exact item allows a number of steps unless its condition is true and its count is another
abbrev pub AllowsCount : Env → ℕ → ExactView → Type 0
AllowsCount env j item = IsTrue (is_true (value_of env item.when)) → item.count ≡ j

-- each exact item allows this number of steps in the cycle
abbrev pub IsAllowed : DesignView → List Table → List Value → List Scalar → ℕ → Type 0
IsAllowed d interp state inputs j =
    AllByRecursion (AllowsCount (env_of d.pipe.locals interp state inputs) j) d.exact

-- the cycle stands for j steps of the specification: so many are allowed, and they lead from what the state
-- before the cycle stands for to what the state after it stands for
abbrev pub StandsForBy :
    DesignView → Abstraction → List Table → List Value → List Scalar → ℕ → Type 0
StandsForBy d abs interp state inputs j =
    IsAllowed d interp state inputs j
    × Same (abs interp (step d.pipe interp state inputs)) (spec_steps j d interp (abs interp state))

-- the invariant is true in a state
abbrev pub MeetsInvariant : DesignView → List Table → List Value → Type 0
MeetsInvariant d interp state = IsTrue (invariant d interp state)

-- the condition `invariant`: it is true after the cycle
abbrev pub KeepsInvariant : DesignView → List Table → List Value → List Scalar → Type 0
KeepsInvariant d interp state inputs = MeetsInvariant d interp (step d.pipe interp state inputs)

-- the condition `commute`: the cycle stands for some number of steps, at most the design's
abbrev pub CommutesBy : DesignView → Abstraction → List Table → List Value → List Scalar → Type 0
CommutesBy d abs interp state inputs =
    (j : ℕ) × (j ≤ d.steps) × StandsForBy d abs interp state inputs j

abbrev pub ConditionHoldsBy : DesignView → Abstraction → Case → Condition → Type 0
ConditionHoldsBy d abs c condition.Invariant = KeepsInvariant d c.interp c.state c.inputs
ConditionHoldsBy d abs c condition.Commute = CommutesBy d abs c.interp c.state c.inputs

-- a case breaks a condition: it fits, the invariant is true in its state, and the condition is false
pub record BreaksBy (d : DesignView) (abs : Abstraction) (c : Case) (which : Condition) :
    Type 0 where
  pub fits : Fits d c
  pub inside : MeetsInvariant d c.interp c.state
  pub broken : ¬ ConditionHoldsBy d abs c which

-- what a case shows; where both conditions are false, the invariant is named
abbrev pub JudgedBy : DesignView → Abstraction → Case → Judged → Type 0
JudgedBy d abs c judged.Outside = ¬ MeetsInvariant d c.interp c.state
JudgedBy d abs c (judged.Broken condition.Invariant) =
    MeetsInvariant d c.interp c.state × (¬ ConditionHoldsBy d abs c condition.Invariant)
JudgedBy d abs c (judged.Broken condition.Commute) =
    MeetsInvariant d c.interp c.state
    × ConditionHoldsBy d abs c condition.Invariant
    × (¬ ConditionHoldsBy d abs c condition.Commute)
JudgedBy d abs c judged.Holds =
    MeetsInvariant d c.interp c.state
    × ConditionHoldsBy d abs c condition.Invariant
    × ConditionHoldsBy d abs c condition.Commute

-- the same where the abstraction is flushing
abbrev pub StandsFor : DesignView → List Table → List Value → List Scalar → ℕ → Type 0
StandsFor d interp state inputs j = StandsForBy d (flushed d) interp state inputs j

abbrev pub Commutes : DesignView → List Table → List Value → List Scalar → Type 0
Commutes d interp state inputs = CommutesBy d (flushed d) interp state inputs

abbrev pub Breaks : DesignView → Case → Condition → Type 0
Breaks d c which = BreaksBy d (flushed d) c which

abbrev pub IsJudged : DesignView → Case → Judged → Type 0
IsJudged d c j = JudgedBy d (flushed d) c j

-- some fitting case has the invariant true in its state
abbrev pub SomeCaseMeetsInvariant : DesignView → Type 0
SomeCaseMeetsInvariant d = (c : Case) × Fits d c × MeetsInvariant d c.interp c.state
