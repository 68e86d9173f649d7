-- Two visible states that steps of the specification join, in a cycle of the pipeline (Burch and Dill 1994). Flushing
-- before the cycle and after it gives such states, and so may any other abstraction.
use Rattle.std.specs.Prelude.{◌≤◌, ℕ, List}
use Rattle.bd_model.specs.DesignView.{DesignView}
use Rattle.bd_model.specs.Cycle.{spec_steps}
use Rattle.bd_model.specs.Same.{Same}
use Rattle.bd_model.specs.Conditions.{IsAllowed}
use Rattle.bd_model.specs.declared.table.Scalar.{Scalar}
use Rattle.bd_model.specs.declared.table.Table.{Table}
use Rattle.bd_model.specs.declared.table.Value.{Value}

-- j steps are allowed in the cycle from this state, and lead from `before` to a state that is the same as `after`
abbrev pub StepsJoinAt :
    DesignView → List Table → List Value → List Scalar → List Value → List Value → ℕ → Type 0
StepsJoinAt d interp state inputs before after j =
    IsAllowed d interp state inputs j × Same after (spec_steps j d interp before)

-- some number of steps does so, at most the design's
abbrev pub StepsJoin :
    DesignView → List Table → List Value → List Scalar → List Value → List Value → Type 0
StepsJoin d interp state inputs before after =
    (j : ℕ) × (j ≤ d.steps) × StepsJoinAt d interp state inputs before after j
