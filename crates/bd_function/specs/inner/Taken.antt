-- What holds of the terms, variables and rows that have been taken so far.
use Rattle.std.specs.Prelude.{◌≡◌, ◌<◌, ◌⊎◌, ℕ, suc, zero, ◌+◌, Bool, true, false, List, [], ◌∷◌, ◌++◌, Contains, length, map, slice_get, Some}
use Rattle.std.specs.List.{All}
use Rattle.bd_model.specs.declared.design.Sort.{Sort}
use Rattle.bd_model.specs.declared.design.Sort.TheVariants as sort
use Rattle.bd_model.specs.declared.table.Scalar.{Scalar}
use Rattle.bd_model.specs.Table.{at}
use Rattle.bd_model.specs.Value.{scalar_truth, scalar_word}
use Rattle.bd_model.specs.Fits.{scalar_sort}
use Rattle.bd_terms.specs.declared.node.Sym.{Sym}
use Rattle.bd_terms.specs.declared.node.Sym.TheVariants.{Var}
use Rattle.bd_terms.specs.declared.node.Node.{Node}
use Rattle.bd_terms.specs.declared.node.Node.TheVariants.{App, Pred, Read, Write, Init}
use Rattle.bd_terms.specs.Graph.{AddsUses, Extends, HasSort, IsGraph, Use, sort_at, uses}
use Rattle.bd_terms.specs.Denotation.{World, Denoted, Denotes, Truth, Word, denoted, words}
use Rattle.bd_terms.specs.Reaches.{Reaches}
use Rattle.bd_function.specs.declared.flat.FlatRow.{FlatRow}
use Rattle.bd_function.specs.declared.flat.FlatSym.{FlatSym}
use Rattle.bd_function.specs.declared.eliminate.Taken.{Taken}
use Rattle.bd_walk.specs.Built.{IsBuilt}
use Rattle.bd_function.specs.Flat.{IsChosen, IsFirstVariable, KeepsFirst, application, under}
use Rattle.bd_function.specs.Flattened.{AreRising, IsChoice, StandsFor}
use Rattle.bd_terms.specs.Renamed.{id_at}

-- the node is of no memory
abbrev pub IsPlain : Node → Type 0
IsPlain (Read m a) = ⊥
IsPlain (Write m a d) = ⊥
IsPlain (Init e) = ⊥
IsPlain _ = Unit {0}

-- a word or a truth value
abbrev pub is_scalar : Sort → Bool
is_scalar sort.Bool = true
is_scalar sort.Word = true
is_scalar sort.Memory = false

-- a scalar read as one of the sort
abbrev pub as_sort : Sort → Scalar → Denoted
as_sort sort.Bool x = Truth (scalar_truth x)
as_sort sort.Word x = Word (scalar_word x)
as_sort sort.Memory x = Truth false

abbrev pub use_of : Sym → ℕ → Sort → Use
use_of symbol arity s = record { symbol = symbol; arity = arity; sort = s }

-- the sort of a row's variable
abbrev pub row_sort : List Node → List ℕ → FlatRow → Sort
row_sort nodes variables r = sort_at nodes (id_at variables r.var)

-- a row over words of the graph, whose variable is a term of it
pub record IsRow (nodes : List Node) (variables : List ℕ) (r : FlatRow) : Type 0 where
  pub words : All (λ a. HasSort nodes a sort.Word) r.args
  pub known : r.var < length variables
  pub inside : id_at variables r.var < length nodes
  pub applied : Contains (uses nodes) (use_of (Var r.var) 0 (row_sort nodes variables r))
  pub value : (v : ℕ → Scalar) → denoted (under v) nodes (id_at variables r.var) ≡ as_sort (row_sort nodes variables r) (v r.var)
  pub stands : StandsFor nodes (row_sort nodes variables r) r.var (id_at variables r.var)

-- a variable below the number
pub record IsVariableBelow (n : ℕ) (u : Use) : Type 0 where
  pub number : ℕ
  pub below : number < n
  pub same : u.symbol ≡ Var number
  pub plain : u.arity ≡ 0

-- a symbol with the row
pub record HasRow (syms : List FlatSym) (symbol : Sym) (r : FlatRow) : Type 0 where
  pub holder : FlatSym
  pub listed : Contains syms holder
  pub same : holder.sym ≡ symbol
  pub has : Contains holder.rows r

pub record IsTaken (t : Taken) : Type 0 where
  pub graph : IsGraph t.graph
  pub rows : (s : FlatSym) → Contains t.rows.items s → (r : FlatRow) → Contains s.rows r → IsRow t.graph t.variables.items r
  pub applied : (u : Use) → Contains (uses t.graph) u → IsVariableBelow (length t.variables.items) u
  pub named : map (λ s. s.sym) t.rows.items ≡ t.symbols.keys
  pub once : (i j : ℕ) (k : Sym) → slice_get t.symbols.keys i ≡ Some k → slice_get t.symbols.keys j ≡ Some k → i ≡ j
  pub different : (k l : Sym) (q r : FlatRow) → HasRow t.rows.items k q → HasRow t.rows.items l r → q.var ≡ r.var → (k ≡ l) × (q ≡ r)

-- the rows of the symbols have these arities and sorts
pub record AreAlike (t : Taken) (us : List Use) : Type 0 where
  pub alike : (u : Use) → Contains us u → (s : FlatSym) → Contains t.rows.items s → s.sym ≡ u.symbol → (r : FlatRow) → Contains s.rows r
      → (length r.args ≡ u.arity) × (row_sort t.graph t.variables.items r ≡ u.sort)

-- a row of one of these uses
pub record IsNewRow (t : Taken) (us : List Use) (symbol : Sym) (r : FlatRow) : Type 0 where
  pub use_ : Use
  pub among : Contains us use_
  pub same : use_.symbol ≡ symbol
  pub arity : length r.args ≡ use_.arity
  pub sorted : row_sort t.graph t.variables.items r ≡ use_.sort

-- a row that was there keeps its sort, and another one is of these uses
pub record StepsRow (t t' : Taken) (us : List Use) (symbol : Sym) (r : FlatRow) : Type 0 where
  pub from : (HasRow t.rows.items symbol r × (row_sort t'.graph t'.variables.items r ≡ row_sort t.graph t.variables.items r)) ⊎ IsNewRow t' us symbol r

-- the use has a row
pub record HasUse (t : Taken) (u : Use) : Type 0 where
  pub row : FlatRow
  pub has : HasRow t.rows.items u.symbol row
  pub arity : length row.args ≡ u.arity
  pub sorted : row_sort t.graph t.variables.items row ≡ u.sort

-- the row is still there, with its sort
pub record KeepsRow (t t' : Taken) (symbol : Sym) (r : FlatRow) : Type 0 where
  pub has : HasRow t'.rows.items symbol r
  pub sorted : row_sort t'.graph t'.variables.items r ≡ row_sort t.graph t.variables.items r

-- these values are chosen
pub record Chooses (old : List Node) (old_root : ℕ) (nodes : List Node) (syms : List FlatSym) (w : World) (choice v : ℕ → Scalar) : Type 0 where
  pub keeps : KeepsFirst w v nodes syms
  pub each : (x : ℕ) → (v x ≡ choice x) ⊎ IsFirstVariable w v old old_root nodes syms x

-- the old root reaches an application of the symbol to terms with these values
pub record IsApplied (old : List Node) (old_root : ℕ) (w : World) (u : Use) (args : List ℕ) : Type 0 where
  pub id : ℕ
  pub terms : List ℕ
  pub reached : Reaches old old_root id
  pub there : slice_get old id ≡ Some (application u.sort u.symbol terms)
  pub same : args ≡ words w old terms

-- a term more, these uses at these arguments: it has this sort, and denotes this wherever the first rows are kept
pub record Steps (t t' : Taken) (us : List Use) (args : List ℕ) (id : ℕ) (s : Sort) (value : World → (ℕ → Scalar) → Denoted) : Type 0 where
  pub extends : Extends t.graph t'.graph
  pub taken : IsTaken t'
  pub rows : (symbol : Sym) (r : FlatRow) → HasRow t'.rows.items symbol r → StepsRow t t' us symbol r
  pub kept : (symbol : Sym) (r : FlatRow) → HasRow t.rows.items symbol r → KeepsRow t t' symbol r
  pub all : (u : Use) → Contains us u → HasUse t' u
  pub chosen : (old : List Node) (root : ℕ) (w : World) (choice v : ℕ → Scalar) → Chooses old root t.graph t.rows.items w choice v
      → ((u : Use) → Contains us u → IsApplied old root w u (words (under v) t.graph args)) → IsChosen old root t'.graph t'.rows.items w choice
  pub first : (w : World) (v : ℕ → Scalar) → KeepsFirst w v t'.graph t'.rows.items → KeepsFirst w v t.graph t.rows.items
  pub sorted : HasSort t'.graph id s
  pub means : (w : World) (v : ℕ → Scalar) → KeepsFirst w v t'.graph t'.rows.items → denoted (under v) t'.graph id ≡ value w v

-- the term of a variable
pub record AddsTerm (old new : List Node) (var id : ℕ) (s : Sort) : Type 0 where
  pub extends : Extends old new
  pub adds : AddsUses old new (use_of (Var var) 0 s ∷ [])
  pub applied : Contains (uses new) (use_of (Var var) 0 s)
  pub sorted : HasSort new id s
  pub denotes : Denotes new id (λ w. as_sort s (at (w (Var var)) []))
  pub graph : IsGraph new
  pub stands : StandsFor new s var id

-- a variable more
pub record AddsVariable (t t' : Taken) (id : ℕ) (s : Sort) : Type 0 where
  pub term : AddsTerm t.graph t'.graph (length t.variables.items) id s
  pub variables : t'.variables.items ≡ t.variables.items ++ id ∷ []
  pub symbols : t'.symbols.keys ≡ t.symbols.keys
  pub rows : t'.rows.items ≡ t.rows.items

-- the symbol at the place
pub record AddsSymbol (t t' : Taken) (symbol : Sym) (place : ℕ) : Type 0 where
  pub graph : t'.graph ≡ t.graph
  pub variables : t'.variables.items ≡ t.variables.items
  pub named : map (λ s. s.sym) t'.rows.items ≡ t'.symbols.keys
  pub once : (i j : ℕ) (k : Sym) → slice_get t'.symbols.keys i ≡ Some k → slice_get t'.symbols.keys j ≡ Some k → i ≡ j
  pub holder : FlatSym
  pub there : slice_get t'.rows.items place ≡ Some holder
  pub same : holder.sym ≡ symbol
  pub adds : (t'.rows.items ≡ t.rows.items) ⊎ (t'.rows.items ≡ t.rows.items ++ (record { sym = symbol; rows = [] }) ∷ [])

-- a row after those of the symbol at the place
abbrev pub with_row : List FlatSym → ℕ → FlatRow → List FlatSym
with_row [] place r = []
with_row (s ∷ ss) zero r = record { sym = s.sym; rows = s.rows ++ r ∷ [] } ∷ ss
with_row (s ∷ ss) (suc place) r = s ∷ with_row ss place r

-- the rows of each symbol are in the order of their variables
abbrev pub AreInOrder : List FlatSym → Type 0
AreInOrder syms = (s : FlatSym) → Contains syms s → AreRising s.rows

-- the symbol is there, perhaps with further rows after its own
pub record HasGrown (syms : List FlatSym) (s : FlatSym) : Type 0 where
  pub later : FlatSym
  pub listed : Contains syms later
  pub same : later.sym ≡ s.sym
  pub more : List FlatRow
  pub grows : later.rows ≡ s.rows ++ more

-- an application more: its row comes after those of its symbol, over which the term chooses
pub record AddsApplication (t t' : Taken) (kind : Sort) (s : Sym) (args : List ℕ) (id : ℕ) : Type 0 where
  pub own : ℕ
  pub before : List FlatRow
  pub stands : StandsFor t'.graph kind (length t.variables.items) own
  pub choice : IsChoice t'.graph kind before args own id
  pub counted : length t'.variables.items ≡ length t.variables.items + 1
  pub there : Contains t'.rows.items (record { sym = s; rows = before ++ (record { args = args; var = length t.variables.items }) ∷ [] })
  pub later : (x : FlatSym) → Contains t.rows.items x → HasGrown t'.rows.items x
  pub order : AreInOrder t.rows.items → AreInOrder t'.rows.items

-- a term more that is no application
pub record BuildsTerm (t t' : Taken) (n : Node) (id : ℕ) : Type 0 where
  pub built : IsBuilt t'.graph n id
  pub variables : t'.variables.items ≡ t.variables.items
  pub rows : t'.rows.items ≡ t.rows.items

-- the term of a node over terms that were taken
abbrev pub MakesTerm : Taken → Taken → Node → ℕ → Type 0
MakesTerm t t' (App s args) id = AddsApplication t t' sort.Word s args id
MakesTerm t t' (Pred s args) id = AddsApplication t t' sort.Bool s args id
MakesTerm t t' n id = BuildsTerm t t' n id
