-- From what each term of a flat graph is made (Bryant, German and Velev 2001): an application is the variable of the first
-- of its symbol's rows with equal arguments, or else its own one, as a nested ite; each other term is the same over what
-- its parts become. A variable's number is the place of its application among those that the root reaches, and a symbol
-- has their rows in that order. Only the order of the symbols is free, and that in which terms are built.
use Rattle.std.specs.Prelude.{◌≡◌, ◌↔◌, ◌<◌, ℕ, List, [], ◌∷◌, ◌++◌, Contains, length, map, slice_get, Some}
use Rattle.bd_model.specs.declared.design.Sort.{Sort}
use Rattle.bd_terms.specs.declared.node.Sym.{Sym}
use Rattle.bd_terms.specs.declared.node.Sym.TheVariants.{Var}
use Rattle.bd_terms.specs.declared.node.Node.{Node}
use Rattle.bd_terms.specs.declared.node.Node.TheVariants.{True, And, Ite, Eq}
use Rattle.bd_terms.specs.Graph.{Use, children, node_uses, uses}
use Rattle.bd_terms.specs.Reaches.{Reaches}
use Rattle.bd_terms.specs.Renamed.{id_at, renamed}
use Rattle.bd_walk.specs.Built.{IsBuilt}
use Rattle.bd_function.specs.declared.flat.FlatRow.{FlatRow}
use Rattle.bd_function.specs.declared.flat.FlatSym.{FlatSym}
use Rattle.bd_function.specs.Flat.{application}

-- the conjunction of the equations between arguments
abbrev pub IsEquality : List Node → List ℕ → List ℕ → ℕ → Type 0
IsEquality nodes [] [] id = IsBuilt nodes True id
IsEquality nodes (a ∷ left) (b ∷ right) id =
    (same : ℕ) × (rest : ℕ) × IsBuilt nodes (Eq a b) same × IsEquality nodes left right rest × IsBuilt nodes (And same rest) id
IsEquality nodes _ _ id = ⊥

-- the term is a variable
abbrev pub StandsFor : List Node → Sort → ℕ → ℕ → Type 0
StandsFor nodes kind x id = slice_get nodes id ≡ Some (application kind (Var x) [])

-- the variable of the first row with these arguments, or else the own one
abbrev pub IsChoice : List Node → Sort → List FlatRow → List ℕ → ℕ → ℕ → Type 0
IsChoice nodes kind [] args own id = id ≡ own
IsChoice nodes kind (r ∷ rows) args own id =
    (same : ℕ) × (term : ℕ) × (rest : ℕ) × IsEquality nodes r.args args same × StandsFor nodes kind r.var term
    × IsChoice nodes kind rows args own rest × IsBuilt nodes (Ite same term rest) id

-- the term is made for a term of the old graph, from terms that are
pub data Flattened (old : List Node) (applications : List ℕ) (nodes : List Node) (syms : List FlatSym) : ℕ → ℕ → Type 0 where
  OfPlain : (i : ℕ) (node : Node) (places : List ℕ) (id : ℕ) → slice_get old i ≡ Some node → node_uses node ≡ []
      → ((c : ℕ) → Contains (children node) c → Flattened old applications nodes syms c (id_at places c)) → IsBuilt nodes (renamed places node) id
      → Flattened old applications nodes syms i id
  OfApplication : (i x : ℕ) (kind : Sort) (s : Sym) (args places : List ℕ) (before after : List FlatRow) (own id : ℕ)
      → slice_get old i ≡ Some (application kind s args) → slice_get applications x ≡ Some i
      → ((c : ℕ) → Contains args c → Flattened old applications nodes syms c (id_at places c))
      → Contains syms (record { sym = s; rows = before ++ (record { args = map (id_at places) args; var = x }) ∷ after })
      → StandsFor nodes kind x own → IsChoice nodes kind before (map (id_at places) args) own id → Flattened old applications nodes syms i id

-- the root reaches the term, which is an application
pub record ReachesApplication (old : List Node) (old_root id : ℕ) : Type 0 where
  pub kind : Sort
  pub symbol : Sym
  pub args : List ℕ
  pub reached : Reaches old old_root id
  pub there : slice_get old id ≡ Some (application kind symbol args)

-- rows in the order of their variables
abbrev pub AreRising : List FlatRow → Type 0
AreRising rows = (i j : ℕ) (q r : FlatRow) → i < j → slice_get rows i ≡ Some q → slice_get rows j ≡ Some r → q.var < r.var

-- The root is made for the old one, where the applications that this reaches have one row each: the variables are
-- those of the rows, and no others.
pub record IsMadeFlat (old : List Node) (old_root : ℕ) (nodes : List Node) (root : ℕ) (syms : List FlatSym) : Type 0 where
  pub applications : List ℕ
  pub rising : (i j a b : ℕ) → i < j → slice_get applications i ≡ Some a → slice_get applications j ≡ Some b → a < b
  pub are : (id : ℕ) → Contains applications id ↔ ReachesApplication old old_root id
  pub rows : (s : FlatSym) → Contains syms s → (r : FlatRow) → Contains s.rows r → r.var < length applications
  pub order : (s : FlatSym) → Contains syms s → AreRising s.rows
  pub variables : (u : Use) → Contains (uses nodes) u → (x : ℕ) × (x < length applications) × (u.symbol ≡ Var x)
  pub made : Flattened old applications nodes syms old_root root
