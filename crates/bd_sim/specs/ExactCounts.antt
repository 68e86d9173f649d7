-- Forced numbers of steps: the counts of the exact items whose condition is true in a cycle (this project's own; Burch
-- and Dill 1994 leave the number open).
use Rattle.std.specs.Prelude.{ℕ, List, map}
use Rattle.std.specs.List.{filter}
use Rattle.bd_model.specs.DesignView.{DesignView, ExactView}
use Rattle.bd_model.specs.Value.{Env, env_of, is_true, value_of}
use Rattle.bd_model.specs.declared.table.Scalar.{Scalar}
use Rattle.bd_model.specs.declared.table.Table.{Table}
use Rattle.bd_model.specs.declared.table.Value.{Value}

-- of these items, in their order
abbrev pub counts_in : Env → List ExactView → List ℕ
counts_in env items = map (λ item. item.count) (filter (λ item. is_true (value_of env item.when)) items)

-- of the design's
abbrev pub counts_of : DesignView → List Table → List Value → List Scalar → List ℕ
counts_of d interp state inputs = counts_in (env_of d.pipe.locals interp state inputs) d.exact
