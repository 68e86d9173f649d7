-- What a case from values of atoms has to be: one in whose world each symbol has the table of the decoded values.
use Rattle.std.specs.Prelude.{◌≡◌, ◌≢◌, ◌⊎◌, ◌<◌, ℕ, Bool, false, List, Contains, Some, length, slice_get}
use Rattle.bd_model.specs.DesignView.{DesignView}
use Rattle.bd_model.specs.Table.{at}
use Rattle.bd_model.specs.declared.case.Case.{Case}
use Rattle.bd_model.specs.declared.design.Sort.TheVariants as sort
use Rattle.bd_model.specs.declared.table.Scalar.{Scalar}
use Rattle.bd_terms.specs.declared.node.Node.{Node}
use Rattle.bd_terms.specs.declared.node.Sym.TheVariants as symbol
use Rattle.bd_terms.specs.Graph.{IsGraph, Use, uses}
use Rattle.bd_terms.specs.Denotation.{denoted}
use Rattle.bd_symbolic.specs.DesignSymbols.{IsDeclared}
use Rattle.bd_symbolic.specs.World.{world_of}
use Rattle.bd_function.specs.declared.flat.FlatRow.{FlatRow}
use Rattle.bd_function.specs.declared.flat.FlatSym.{FlatSym}
use Rattle.bd_function.specs.Flat.{Flattens, HasAllApplications, IsFlat, under}
use Rattle.bd_function.specs.Tables.{sym_tables, world_of_tables}
use Rattle.bd_prop.specs.declared.atom.Atom.{Atom}
use Rattle.bd_transitive.specs.declared.graph.Order.{Order}
use Rattle.bd_transitive.specs.Edges.{IsEnd, JoinsAt}
use Rattle.bd_lift.specs.Decoded.{AreDecoded, variable_use}

-- a fresh address
abbrev pub IsAddress : Use → Type 0
IsAddress u = (i : ℕ) × (u ≡ record { symbol = symbol.Address i; arity = 0; sort = sort.Word })

-- a symbol of the design, or a fresh address
abbrev pub IsKnown : DesignView → Use → Type 0
IsKnown d u = IsDeclared d u ⊎ IsAddress u

-- a row of a known symbol, with its arity, and a variable of its sort
pub record IsKnownRow (d : DesignView) (nodes : List Node) (s : FlatSym) (r : FlatRow) : Type 0 where
  pub applied : Use
  pub known : IsKnown d applied
  pub same : applied.symbol ≡ s.sym
  pub arity : length r.args ≡ applied.arity
  pub variable : Contains (uses nodes) (variable_use r.var applied.sort)

pub record AreKnown (d : DesignView) (nodes : List Node) (syms : List FlatSym) : Type 0 where
  pub each : (s : FlatSym) → Contains syms s → (r : FlatRow) → Contains s.rows r → IsKnownRow d nodes s r

-- an edge between the two variables is false, or one of them is in no edge
abbrev pub AreToldApart : Order → (ℕ → Bool) → ℕ → ℕ → Type 0
AreToldApart order value x y =
    ((e : ℕ) × JoinsAt order.edges e x y × (value e ≡ false)) ⊎ ((¬ IsEnd order.edges x) ⊎ (¬ IsEnd order.edges y))

-- two constants of one group that both have a variable, that of their first application, are told apart
pub record TellsApart (d : DesignView) (syms : List FlatSym) (order : Order) (value : ℕ → Bool) : Type 0 where
  pub apart : (group : List ℕ) → Contains d.distinct group → (f g : ℕ) → Contains group f → Contains group g → f ≢ g
      → (s t : FlatSym) → Contains syms s → Contains syms t → s.sym ≡ symbol.Function f → t.sym ≡ symbol.Function g
      → (q r : FlatRow) → slice_get s.rows 0 ≡ Some q → slice_get t.rows 0 ≡ Some r → AreToldApart order value q.var r.var

-- in the case's world, with some addresses, each symbol with rows has at all arguments the value of its table
pub record IsLifted (nodes : List Node) (syms : List FlatSym) (order : Order) (atoms : List (Atom × Bool)) (c : Case) : Type 0 where
  pub values : ℕ → Scalar
  pub decoded : AreDecoded nodes order atoms values
  pub addresses : List ℕ
  pub alike : (s : FlatSym) → Contains syms s → (r : FlatRow) → Contains s.rows r → (args : List ℕ)
      → at (world_of c.interp c.state c.inputs addresses s.sym) args ≡ at (world_of_tables (sym_tables values nodes syms) s.sym) args

-- the law of lifted cases: in the case's world the root that was flattened denotes what the flat one denotes under the
-- decoded values
abbrev pub LiftedDenotes : Type 0
LiftedDenotes = (old : List Node) (root : ℕ) (nodes : List Node) (flat_root : ℕ) (syms : List FlatSym) (order : Order) (atoms : List (Atom × Bool)) (c : Case)
    → IsGraph old → root < length old → Flattens old root nodes flat_root syms → HasAllApplications old root nodes syms → IsFlat nodes flat_root syms → (l : IsLifted nodes syms order atoms c)
    → denoted (world_of c.interp c.state c.inputs l.addresses) old root ≡ denoted (under l.values) nodes flat_root
