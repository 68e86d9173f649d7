-- The sets and maps of the crate.
use Rattle.std.specs.Prelude.{ℕ, Bool, false, ◌==◌, ◌&&◌, List, Option, nat_eq}
use Rattle.std.specs.Map.{lookup}
use Rattle.bd_transitive.specs.declared.graph.Edge.{Edge}
use Rattle.bd_equality.specs.declared.settled.Done.{Done}
use Rattle.bd_equality.specs.declared.wanted.Wanted.{Wanted}
use Rattle.bd_equality.specs.declared.wanted.Wanted.TheVariants.{Truth, Equation}
use Rattle.bd_equality.specs.declared.wanted.Way.{Way}
use Rattle.bd_equality.specs.declared.pairs.VariablePair.{VariablePair}

abbrev pub is_wanted : Wanted → Wanted → Bool
is_wanted (Truth i) (Truth j) = i == j
is_wanted (Equation a b) (Equation x y) = (a == x) && (b == y)
is_wanted _ _ = false

-- a node that is made in a way
abbrev pub done_in : Way → ℕ → Done
done_in w n = record { way = w; node = n }

-- what is kept of what is wanted
abbrev pub known : List (Wanted × Done) → Wanted → Option Done
known settled wanted = lookup (is_wanted wanted) settled

-- the variable that is kept for a constant
abbrev pub variable_of : List (ℕ × ℕ) → ℕ → Option ℕ
variable_of variables f = lookup (nat_eq f) variables

-- a pair as an edge
abbrev pub edge_of : VariablePair → Edge
edge_of p = record { from = p.from; to = p.to }
