-- What stays in bounds while choices are gathered.
use Rattle.std.specs.Prelude.{ℕ, ◌<◌, List, All}
use Rattle.bd_prop.specs.declared.choices.Choice.{Choice}
use Rattle.bd_prop.specs.declared.gathering.Part.{Part}
use Rattle.bd_prop.specs.declared.gathering.Part.TheVariants.{Inside, Node}
use Rattle.bd_prop.specs.Gathered.{entry_at}
use Rattle.bd_prop.specs.Graph.{IsBelow}
use Rattle.bd_prop.specs.Node.{named}

-- what stands for the nodes names nodes before n
pub record AreLow (n : ℕ) (entries : List (List Choice)) : Type 0 where
  pub each : (id : ℕ) → All (λ c. c < n) (named (entry_at entries id))

abbrev pub IsPartBelow : ℕ → Part → Type 0
IsPartBelow n (Inside items) = All (λ c. c < n) (named items)
IsPartBelow n (Node node) = IsBelow n node
