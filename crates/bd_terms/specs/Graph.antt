-- Graphs of terms as lists of nodes, each node over nodes that stand before it (Burch and Dill 1994; the logic
-- of equality with uninterpreted functions and memories of Bryant, German and Velev 2001, every term kept once).
use Rattle.std.specs.Prelude.{◌≡◌, ℕ, ◌<◌, List, [], ◌∷◌, ◌++◌, Contains, length, slice_get, slice_index_or, take, Some}
use Rattle.std.specs.List.{All, AllByRecursion, flat_map}
use Rattle.bd_list.specs.Grown.{grown}
use Rattle.bd_model.specs.declared.design.Sort.{Sort}
use Rattle.bd_model.specs.declared.design.Sort.TheVariants as sort
use Rattle.bd_terms.specs.declared.node.Sym.{Sym}
use Rattle.bd_terms.specs.declared.node.Sym.TheVariants as sym
use Rattle.bd_terms.specs.declared.node.Node.{Node}
use Rattle.bd_terms.specs.declared.node.Node.TheVariants.{True, Not, And, Or, Ite, Eq, App, Pred, Read, Write, Init}

-- the places of the terms that a term stands over
abbrev pub children : Node → List ℕ
children True = []
children (Not a) = a ∷ []
children (And a b) = a ∷ b ∷ []
children (Or a b) = a ∷ b ∷ []
children (Ite c a b) = c ∷ a ∷ b ∷ []
children (Eq a b) = a ∷ b ∷ []
children (App s args) = args
children (Pred s args) = args
children (Read m a) = m ∷ a ∷ []
children (Write m a d) = m ∷ a ∷ d ∷ []
children (Init e) = []

-- the sort of a term, from the sorts of those before it
abbrev pub node_sort : List Sort → Node → Sort
node_sort done (Ite c a b) = slice_index_or done a sort.Bool
node_sort done (App s args) = sort.Word
node_sort done (Read m a) = sort.Word
node_sort done (Write m a d) = sort.Memory
node_sort done (Init e) = sort.Memory
node_sort done _ = sort.Bool

-- the sorts of a graph's nodes
abbrev pub sorts : List Node → List Sort
sorts nodes = grown node_sort [] nodes

-- the sort of a node, by its place
abbrev pub sort_at : List Node → ℕ → Sort
sort_at nodes id = slice_index_or (sorts nodes) id sort.Bool

-- the place is that of a node of this sort
pub record HasSort (nodes : List Node) (id : ℕ) (s : Sort) : Type 0 where
  pub inside : id < length nodes
  pub sorted : sort_at nodes id ≡ s

-- a symbol with the number of its arguments and the sort of its applications
pub record Use : Type 0 where
  pub symbol : Sym
  pub arity : ℕ
  pub sort : Sort

-- the symbol that a term applies; the first contents of an entry apply its symbol to an address
abbrev pub node_uses : Node → List Use
node_uses (App s args) = record { symbol = s; arity = length args; sort = sort.Word } ∷ []
node_uses (Pred s args) = record { symbol = s; arity = length args; sort = sort.Bool } ∷ []
node_uses (Init e) = record { symbol = sym.Entry e; arity = 1; sort = sort.Word } ∷ []
node_uses _ = []

-- the symbols that a graph applies
abbrev pub uses : List Node → List Use
uses nodes = flat_map node_uses nodes

-- wherever the graph applies the symbol, it has this arity and sort
pub record KeepsSymbol (nodes : List Node) (symbol : Sym) (arity : ℕ) (s : Sort) : Type 0 where
  pub keeps : (u : Use) → Contains (uses nodes) u → u.symbol ≡ symbol → (u.arity ≡ arity) × (u.sort ≡ s)

-- the symbol that the node applies keeps its arity and sort
abbrev pub KeepsUses : List Node → Node → Type 0
KeepsUses nodes node = AllByRecursion (λ u. KeepsSymbol nodes u.symbol u.arity u.sort) (node_uses node)

-- the terms that a term stands over have the sorts that its form asks for
abbrev pub FitsSorts : List Node → Node → Type 0
FitsSorts nodes True = Unit {0}
FitsSorts nodes (Not a) = HasSort nodes a sort.Bool
FitsSorts nodes (And a b) = HasSort nodes a sort.Bool × HasSort nodes b sort.Bool
FitsSorts nodes (Or a b) = HasSort nodes a sort.Bool × HasSort nodes b sort.Bool
FitsSorts nodes (Ite c a b) = HasSort nodes c sort.Bool × HasSort nodes a (sort_at nodes a) × HasSort nodes b (sort_at nodes a)
FitsSorts nodes (Eq a b) = HasSort nodes a sort.Word × HasSort nodes b sort.Word
FitsSorts nodes (App s args) = All (λ a. HasSort nodes a sort.Word) args
FitsSorts nodes (Pred s args) = All (λ a. HasSort nodes a sort.Word) args
FitsSorts nodes (Read m a) = HasSort nodes m sort.Memory × HasSort nodes a sort.Word
FitsSorts nodes (Write m a d) = HasSort nodes m sort.Memory × HasSort nodes a sort.Word × HasSort nodes d sort.Word
FitsSorts nodes (Init e) = Unit {0}

-- the list grows by further nodes
pub record Extends (old new : List Node) : Type 0 where
  pub more : List Node
  pub grows : new ≡ old ++ more

-- what the new graph applies is what the old one does, or among these
pub record AddsUses (old new : List Node) (more : List Use) : Type 0 where
  pub within : (u : Use) → Contains (uses new) u → Contains (uses old ++ more) u

-- a graph: each node fits those before it, no node stands twice, each symbol has one arity and one sort
pub record IsGraph (nodes : List Node) : Type 0 where
  pub fits : (i : ℕ) (node : Node) → slice_get nodes i ≡ Some node → FitsSorts (take i nodes) node
  pub different : (i j : ℕ) (node : Node) → slice_get nodes i ≡ Some node → slice_get nodes j ≡ Some node → i ≡ j
  pub consistent : (u : Use) → Contains (uses nodes) u → KeepsSymbol nodes u.symbol u.arity u.sort
