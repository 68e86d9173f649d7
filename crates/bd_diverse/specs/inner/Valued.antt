-- What terms of no memory denote, as scalars.
use Rattle.std.specs.Prelude.{◌≡◌, ◌<◌, ℕ, Bool, true, false, not, ◌&&◌, ◌||◌, ◌==◌, List, length, map, if◌then◌else◌}
use Rattle.bd_model.specs.declared.table.Scalar.{Scalar}
use Rattle.bd_model.specs.declared.table.Scalar.TheVariants as scalar
use Rattle.bd_model.specs.Table.{at}
use Rattle.bd_model.specs.Value.{scalar_truth, scalar_word}
use Rattle.bd_terms.specs.declared.node.Node.{Node}
use Rattle.bd_terms.specs.declared.node.Node.TheVariants.{True, Not, And, Or, Ite, Eq, App, Pred}
use Rattle.bd_terms.specs.Denotation.{World, denoted}
use Rattle.bd_function.specs.Flat.{ReachesNoMemory}
use Rattle.bd_function.specs.inner.Scalars.{as_denoted, scalar_at, truth_at, word_at}

-- what a term that applies no symbol denotes, from those before it
abbrev pub connective : List Scalar → Node → Scalar
connective done True = scalar.Bool true
connective done (Not a) = scalar.Bool (not (truth_at done a))
connective done (And a b) = scalar.Bool (truth_at done a && truth_at done b)
connective done (Or a b) = scalar.Bool (truth_at done a || truth_at done b)
connective done (Ite c a b) = if truth_at done c then scalar_at done a else scalar_at done b
connective done (Eq a b) = scalar.Bool (word_at done a == word_at done b)
connective done _ = scalar.Bool false

abbrev pub scalar_in : World → List Scalar → Node → Scalar
scalar_in w done (App s args) = scalar.Word (scalar_word (at (w s) (map (word_at done) args)))
scalar_in w done (Pred s args) = scalar.Bool (scalar_truth (at (w s) (map (word_at done) args)))
scalar_in w done node = connective done node

-- the terms before the place have the scalars that they denote, where they rest on no memory
pub record IsValued (w : World) (nodes : List Node) (place : ℕ) (done : List Scalar) : Type 0 where
  pub size : length done ≡ place
  pub values : (k : ℕ) → k < place → ReachesNoMemory nodes k → as_denoted (scalar_at done k) ≡ denoted w nodes k
