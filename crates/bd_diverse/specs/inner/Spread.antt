-- A world in which positive applications have values of their own, made by one pass over the terms in rising order: each
-- application that is met puts a row after those of its symbol, and the first row with its arguments counts.
use Rattle.std.specs.Prelude.{◌≡◌, ℕ, suc, ◌+◌, ◌<◌, ◌≤◌, ◌⊎◌, Bool, true, List, [], ◌∷◌, ◌++◌, Contains, Option, Some, None, length, map, slice_get, if◌then◌else◌}
use Rattle.std.specs.List.{list_any}
use Rattle.bd_model.specs.declared.table.Scalar.{Scalar}
use Rattle.bd_model.specs.declared.table.Scalar.TheVariants as scalar
use Rattle.bd_model.specs.declared.table.Row.{Row}
use Rattle.bd_model.specs.Table.{at, row_value}
use Rattle.bd_model.specs.Value.{scalar_truth, scalar_word}
use Rattle.bd_terms.specs.declared.node.Sym.{Sym}
use Rattle.bd_terms.specs.declared.node.Node.{Node}
use Rattle.bd_terms.specs.declared.node.Node.TheVariants.{App, Pred}
use Rattle.bd_terms.specs.Denotation.{World, node_value, words}
use Rattle.bd_terms.specs.Reaches.{Reaches}
use Rattle.bd_function.specs.Tables.{is_symbol}
use Rattle.bd_function.specs.inner.Scalars.{as_denoted, scalar_at, word_at}

abbrev pub is_among : List Sym → Sym → Bool
is_among symbols s = list_any (is_symbol s) symbols

-- the value of the row that the application at a place puts down: one of its own for a positive symbol, else the old one
abbrev pub spread_value : List Sym → ℕ → World → ℕ → Sym → List ℕ → Scalar
spread_value positive bound old place s old_words =
    if is_among positive s then scalar.Word (suc (bound + place)) else at (old s) old_words

-- the symbol that a term applies, and to which terms
abbrev pub symbol_args : Node → Option (Sym × List ℕ)
symbol_args (App s args) = Some (s, args)
symbol_args (Pred s args) = Some (s, args)
symbol_args node = None

-- a table's value as one of the term's sort
abbrev pub read_as : Node → Scalar → Scalar
read_as (App s args) x = scalar.Word (scalar_word x)
read_as node x = scalar.Bool (scalar_truth x)

-- the world with a row after those of the symbol
abbrev pub with_row : World → Sym → Row → World
with_row w s r t = if is_symbol s t then record { default = (w t).default; rows = (w t).rows ++ r ∷ [] } else w t

-- the world of tables without rows, whose values are those at no arguments
abbrev pub start : World → World
start w s = record { default = at (w s) []; rows = [] }

-- the term at the place applies the symbol to these terms
pub record IsUse (nodes : List Node) (place : ℕ) (s : Sym) (args : List ℕ) : Type 0 where
  pub node : Node
  pub there : slice_get nodes place ≡ Some node
  pub is : symbol_args node ≡ Some (s, args)

module _ (positive : List Sym) (bound : ℕ) (old : World) (nodes : List Node) (root : ℕ) (place : ℕ) (done : List Scalar) (new : World) where
  -- a row is that of an application that was met
  pub record RowOf (s : Sym) (r : Row) : Type 0 where
    pub from : ℕ
    pub terms : List ℕ
    pub below : from < place
    pub reached : Reaches nodes root from
    pub use_ : IsUse nodes from s terms
    pub args : r.args ≡ map (word_at done) terms
    pub value : r.value ≡ spread_value positive bound old from s (words old nodes terms)

  -- the first equal application's row gives the value
  pub record Placed (k : ℕ) (node : Node) (s : Sym) (args : List ℕ) : Type 0 where
    pub from : ℕ
    pub terms : List ℕ
    pub early : from ≤ k
    pub reached : Reaches nodes root from
    pub use_ : IsUse nodes from s terms
    pub same : map (word_at done) terms ≡ map (word_at done) args
    pub row : (d : Scalar) → row_value (new s).rows (map (word_at done) args) d ≡ spread_value positive bound old from s (words old nodes terms)
    pub value : scalar_at done k ≡ read_as node (spread_value positive bound old from s (words old nodes terms))

  -- a value of its own without arguments
  pub record OwnRow (s : Sym) : Type 0 where
    pub from : ℕ
    pub use_ : IsUse nodes from s []
    pub among : is_among positive s ≡ true
    pub value : at (new s) [] ≡ scalar.Word (suc (bound + from))

  -- the terms before the place have been met
  pub record Spreading : Type 0 where
    pub size : length done ≡ place
    pub rows : (s : Sym) (r : Row) → Contains (new s).rows r → RowOf s r
    pub uses : (k : ℕ) (node : Node) (s : Sym) (args : List ℕ) → k < place → Reaches nodes root k → slice_get nodes k ≡ Some node → symbol_args node ≡ Some (s, args) → Placed k node s args
    pub others : (k : ℕ) (node : Node) → k < place → Reaches nodes root k → slice_get nodes k ≡ Some node → symbol_args node ≡ None
        → as_denoted (scalar_at done k) ≡ node_value old (map as_denoted done) node
    pub constants : (s : Sym) → (at (new s) [] ≡ at (old s) []) ⊎ OwnRow s
