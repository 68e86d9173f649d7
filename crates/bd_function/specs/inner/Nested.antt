-- What the nested ite of an application denotes.
use Rattle.std.specs.Prelude.{◌≡◌, ◌<◌, length, ℕ, List, [], ◌∷◌, map, nat_eq, slice_index_or, if◌then◌else◌}
use Rattle.std.specs.List.{All}
use lib.Pointwise.{pointwise}
use Rattle.bd_model.specs.declared.design.Sort.{Sort}
use Rattle.bd_model.specs.declared.design.Sort.TheVariants as sort
use Rattle.bd_terms.specs.Graph.{HasSort}
use Rattle.bd_terms.specs.declared.node.Node.{Node}
use Rattle.bd_terms.specs.declared.node.Node.TheVariants.{Ite}
use Rattle.bd_terms.specs.Denotation.{World, Denoted, denoted, words}
use Rattle.bd_terms.specs.Renamed.{id_at}
use Rattle.bd_walk.specs.Built.{IsBuilt}
use Rattle.bd_function.specs.declared.flat.FlatRow.{FlatRow}
use Rattle.bd_function.specs.Flattened.{IsEquality}

-- the variable of the first row with equal arguments, or else the own one
abbrev pub chosen : World → List Node → List ℕ → List FlatRow → List ℕ → Denoted → Denoted
chosen w nodes variables [] args own = own
chosen w nodes variables (r ∷ rows) args own =
    if pointwise nat_eq (words w nodes r.args) (words w nodes args)
    then denoted w nodes (id_at variables r.var) else chosen w nodes variables rows args own

-- it is built so, over the terms of the variables
abbrev pub IsNestedChoice : List Node → List ℕ → List FlatRow → List ℕ → ℕ → ℕ → Type 0
IsNestedChoice nodes variables [] args own id = id ≡ own
IsNestedChoice nodes variables (r ∷ rows) args own id =
    (same : ℕ) × (rest : ℕ) × IsEquality nodes r.args args same × IsNestedChoice nodes variables rows args own rest
    × IsBuilt nodes (Ite same (id_at variables r.var) rest) id

-- rows whose arguments are so many words of the graph, and whose variables are terms of the sort
pub record IsEarlier (nodes : List Node) (variables : List ℕ) (arity : ℕ) (s : Sort) (r : FlatRow) : Type 0 where
  pub arguments : All (λ a. HasSort nodes a sort.Word) r.args
  pub many : length r.args ≡ arity
  pub known : r.var < length variables
  pub sorted : HasSort nodes (id_at variables r.var) s

abbrev pub AreEarlier : List Node → List ℕ → ℕ → Sort → List FlatRow → Type 0
AreEarlier nodes variables arity s rows = All (IsEarlier nodes variables arity s) rows
