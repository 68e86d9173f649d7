-- Elimination of function and predicate symbols by nested ite, one variable for each application (Bryant, German
-- and Velev 2001). Of applications with equal arguments the first one's variable is the value of all, so the
-- variables of the others are free, as positive equality needs.
use Rattle.std.specs.Prelude.{◌≡◌, ◌≤◌, ◌<◌, ◌^◌, ◌⊎◌, ℕ, Bool, true, false, List, [], Contains, length, map, slice_get, Some}
use Rattle.std.specs.List.{All}
use Rattle.bd_model.specs.declared.design.Sort.TheVariants as sort
use Rattle.bd_model.specs.declared.table.Scalar.{Scalar}
use Rattle.bd_model.specs.declared.table.Scalar.TheVariants as scalar
use Rattle.bd_model.specs.declared.table.Row.{Row}
use Rattle.bd_model.specs.Table.{row_value, at}
use Rattle.bd_model.specs.Value.{no_table}
use Rattle.bd_model.specs.Fits.{scalar_sort}
use Rattle.bd_model.specs.declared.design.Sort.{Sort}
use Rattle.bd_terms.specs.declared.node.Sym.{Sym}
use Rattle.bd_terms.specs.declared.node.Sym.TheVariants.{Var}
use Rattle.bd_terms.specs.declared.node.Node.{Node}
use Rattle.bd_terms.specs.declared.node.Node.TheVariants.{App, Pred}
use Rattle.bd_terms.specs.Graph.{HasSort, Use, sort_at, uses}
use Rattle.bd_terms.specs.Denotation.{World, denoted, words}
use Rattle.bd_terms.specs.Reaches.{Reaches, ReachesUse}
use Rattle.bd_function.specs.declared.flat.FlatRow.{FlatRow}
use Rattle.bd_function.specs.declared.flat.FlatSym.{FlatSym}

-- the root reaches no memory
pub record ReachesNoMemory (nodes : List Node) (root : ℕ) : Type 0 where
  pub none : (id : ℕ) → Reaches nodes root id → sort_at nodes id ≡ sort.Memory → ⊥

-- whether the symbol is a variable
abbrev pub is_variable : Sym → Bool
is_variable (Var x) = true
is_variable _ = false

-- the world that gives each variable its value
abbrev pub under : (ℕ → Scalar) → World
under v (Var x) = record { default = v x; rows = [] }
under v _ = no_table

-- the values of a row's arguments
abbrev pub arguments : (ℕ → Scalar) → List Node → FlatRow → List ℕ
arguments v nodes r = words (under v) nodes r.args

-- the row of a table that a row gives
abbrev pub row_of : (ℕ → Scalar) → List Node → FlatRow → Row
row_of v nodes r = record { args = arguments v nodes r; value = v r.var }

-- the value of the first row with these arguments
abbrev pub first_value : (ℕ → Scalar) → List Node → List FlatRow → List ℕ → Scalar
first_value v nodes rows args = row_value (map (row_of v nodes) rows) args (scalar.Bool false)

-- among the rows of one symbol whose arguments have equal values, the first one's variable has the value of its
-- application in the world
pub record KeepsFirst (w : World) (v : ℕ → Scalar) (nodes : List Node) (syms : List FlatSym) : Type 0 where
  pub first : (s : FlatSym) → Contains syms s → (r : FlatRow) → Contains s.rows r
      → first_value v nodes s.rows (arguments v nodes r) ≡ at (w s.sym) (arguments v nodes r)

-- in every world the flat root denotes what the old one does, under all values that keep the first ones
pub record Flattens (old : List Node) (old_root : ℕ) (nodes : List Node) (root : ℕ) (syms : List FlatSym) : Type 0 where
  pub means : (w : World) (v : ℕ → Scalar) → KeepsFirst w v nodes syms → denoted (under v) nodes root ≡ denoted w old old_root

-- the application of a row, one of a symbol that the old root reaches, with its arity and sort
pub record IsApplication (old : List Node) (old_root : ℕ) (nodes : List Node) (symbol : Sym) (r : FlatRow) : Type 0 where
  pub applied : Use
  pub reached : ReachesUse old old_root applied
  pub same : applied.symbol ≡ symbol
  pub arity : length r.args ≡ applied.arity
  pub variable : Contains (uses nodes) (record { symbol = Var r.var; arity = 0; sort = applied.sort })

-- each row is that of a symbol that the old root reaches
pub record AreApplications (old : List Node) (old_root : ℕ) (nodes : List Node) (syms : List FlatSym) : Type 0 where
  pub each : (s : FlatSym) → Contains syms s → (r : FlatRow) → Contains s.rows r → IsApplication old old_root nodes s.sym r

-- the application of a use has a row: one of its symbol, with its arity, whose variable has its sort
pub record HasApplication (nodes : List Node) (syms : List FlatSym) (u : Use) : Type 0 where
  pub holder : FlatSym
  pub listed : Contains syms holder
  pub same : holder.sym ≡ u.symbol
  pub row : FlatRow
  pub has : Contains holder.rows row
  pub arity : length row.args ≡ u.arity
  pub variable : Contains (uses nodes) (record { symbol = Var row.var; arity = 0; sort = u.sort })

-- each use that the old root reaches has a row, so symbols without an entry aren't reached
pub record HasAllApplications (old : List Node) (old_root : ℕ) (nodes : List Node) (syms : List FlatSym) : Type 0 where
  pub each : (u : Use) → ReachesUse old old_root u → HasApplication nodes syms u

-- the graph's variables have values of their sorts
pub record HaveSorts (v : ℕ → Scalar) (nodes : List Node) : Type 0 where
  pub sorted : (x : ℕ) (s : Sort) → Contains (uses nodes) (record { symbol = Var x; arity = 0; sort = s }) → scalar_sort (v x) ≡ s

-- a term that applies the symbol, as a word or as a truth value
abbrev pub application : Sort → Sym → List ℕ → Node
application sort.Word s args = App s args
application _ s args = Pred s args

-- the row is that of an application that the old root reaches, of terms with the values of the row's arguments; it is the
-- first of its symbol's rows with these values, and its variable has the value of the application in the world
pub record IsFirst (w : World) (v : ℕ → Scalar) (old : List Node) (old_root : ℕ) (nodes : List Node) (s : FlatSym) (r : FlatRow) : Type 0 where
  pub id : ℕ
  pub kind : Sort
  pub args : List ℕ
  pub reached : Reaches old old_root id
  pub there : slice_get old id ≡ Some (application kind s.sym args)
  pub variable : Contains (uses nodes) (record { symbol = Var r.var; arity = 0; sort = kind })
  pub same : arguments v nodes r ≡ words w old args
  pub value : v r.var ≡ at (w s.sym) (arguments v nodes r)
  pub first : (q : FlatRow) → Contains s.rows q → arguments v nodes q ≡ arguments v nodes r → r.var ≤ q.var

-- the variable is that of such a row
pub record IsFirstVariable (w : World) (v : ℕ → Scalar) (old : List Node) (old_root : ℕ) (nodes : List Node) (syms : List FlatSym) (x : ℕ) : Type 0 where
  pub holder : FlatSym
  pub listed : Contains syms holder
  pub row : FlatRow
  pub has : Contains holder.rows row
  pub same : row.var ≡ x
  pub is : IsFirst w v old old_root nodes holder row

-- values that keep the first ones, where each other variable has a value that was chosen for it
pub record IsChosen (old : List Node) (old_root : ℕ) (nodes : List Node) (syms : List FlatSym) (w : World) (choice : ℕ → Scalar) : Type 0 where
  pub values : ℕ → Scalar
  pub keeps : KeepsFirst w values nodes syms
  pub each : (x : ℕ) → (values x ≡ choice x) ⊎ IsFirstVariable w values old old_root nodes syms x

-- the graph applies variables alone, no symbol has two entries, no variable two rows, and the arguments of rows are words of it
pub record IsFlat (nodes : List Node) (root : ℕ) (syms : List FlatSym) : Type 0 where
  pub sorted : HasSort nodes root sort.Bool
  pub variables : (u : Use) → Contains (uses nodes) u → is_variable u.symbol ≡ true
  pub plain : (u : Use) → Contains (uses nodes) u → u.arity ≡ 0
  pub words : (s : FlatSym) → Contains syms s → (r : FlatRow) → Contains s.rows r → All (λ a. HasSort nodes a sort.Word) r.args
  pub once : (i j : ℕ) (s t : FlatSym) → slice_get syms i ≡ Some s → slice_get syms j ≡ Some t → s.sym ≡ t.sym → i ≡ j
  pub different : (s t : FlatSym) (q r : FlatRow) → Contains syms s → Contains s.rows q → Contains syms t → Contains t.rows r → q.var ≡ r.var → (s.sym ≡ t.sym) × (q ≡ r)

-- the number of each variable of the graph has 60 bits
pub record HasSmallVariables (nodes : List Node) : Type 0 where
  pub small : (x : ℕ) (u : Use) → Contains (uses nodes) u → u.symbol ≡ Var x → x < 2 ^ 60
