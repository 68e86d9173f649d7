-- Values of variables from values of atoms: an edge says whether two word variables are equal, and the classes that
-- agree with the edges give them words (Bryant and Velev 2000).
use Rattle.std.specs.Prelude.{◌≡◌, ◌≢◌, ◌↔◌, IsTrue, ◌<◌, ◌+◌, ◌*◌, ◌==◌, ◌||◌, ℕ, Bool, List, All, Contains, length, map, if◌then◌else◌}
use Rattle.std.specs.List.{list_any}
use Rattle.bd_model.specs.declared.design.Sort.{Sort}
use Rattle.bd_model.specs.declared.design.Sort.TheVariants as sort
use Rattle.bd_model.specs.declared.table.Scalar.{Scalar}
use Rattle.bd_model.specs.declared.table.Scalar.TheVariants as scalar
use Rattle.bd_terms.specs.declared.node.Node.{Node}
use Rattle.bd_terms.specs.declared.node.Sym.TheVariants as symbol
use Rattle.bd_terms.specs.Graph.{Use, uses}
use Rattle.bd_function.specs.Flat.{HaveSorts}
use Rattle.bd_prop.specs.declared.atom.Atom.{Atom}
use Rattle.bd_prop.specs.declared.atom.Atom.TheVariants as atom
use Rattle.bd_prop.specs.Values.{truth_of}
use Rattle.bd_transitive.specs.declared.graph.Edge.{Edge}
use Rattle.bd_transitive.specs.declared.graph.Order.{Order}
use Rattle.bd_transitive.specs.Edges.{IsEnd, JoinsAt}
use Rattle.bd_transitive.specs.Orders.{IsOrder}
use Rattle.bd_transitive.specs.Triangle.{AgreesWithClasses, class_of, value_at}

-- the truth of an edge's atom
abbrev pub edge_truth : List (Atom × Bool) → Edge → Bool
edge_truth atoms e = truth_of atoms (atom.Edge e.from e.to)

-- the edge values that the atoms give, by the edges' numbers
abbrev pub edge_truths : List (Atom × Bool) → List Edge → List Bool
edge_truths atoms edges = map (edge_truth atoms) edges

-- whether the variable is an end of an edge
abbrev pub is_end : List Edge → ℕ → Bool
is_end edges x = list_any (λ (e : Edge). (e.from == x) || (e.to == x)) edges

-- the word of a variable: the class of its vertex, and where it is in no edge a number of its own after the classes;
-- each second number there is left for constants that have no variable
abbrev pub decoded_word : Order → List ℕ → ℕ → ℕ
decoded_word order classes x =
    if is_end order.edges x then class_of order.vertices classes x
    else length order.vertices + 2 * x

abbrev pub variable_use : ℕ → Sort → Use
variable_use x s = record { symbol = symbol.Var x; arity = 0; sort = s }

-- classes that agree with the edges
pub record AreClasses (order : Order) (atoms : List (Atom × Bool)) (classes : List ℕ) : Type 0 where
  pub agrees : AgreesWithClasses order.edges (value_at (edge_truths atoms order.edges)) (class_of order.vertices classes)
  pub below : All (λ class. class < length order.vertices) classes

-- the graph's variables have the words of these classes, or the truth of their atoms
pub record AreDecodedBy (nodes : List Node) (order : Order) (atoms : List (Atom × Bool)) (classes : List ℕ) (v : ℕ → Scalar) : Type 0 where
  pub words : (x : ℕ) → Contains (uses nodes) (variable_use x sort.Word) → v x ≡ scalar.Word (decoded_word order classes x)
  pub truths : (x : ℕ) → Contains (uses nodes) (variable_use x sort.Bool) → v x ≡ scalar.Bool (truth_of atoms (atom.Truth x))

-- the values of the graph's variables that the values of the atoms stand for
pub record AreDecoded (nodes : List Node) (order : Order) (atoms : List (Atom × Bool)) (v : ℕ → Scalar) : Type 0 where
  pub classes : List ℕ
  pub are : AreClasses order atoms classes
  pub by : AreDecodedBy nodes order atoms classes v

-- two word variables at the ends of an edge are equal exactly where the edge is true
pub record EdgesTell (nodes : List Node) (order : Order) (atoms : List (Atom × Bool)) (v : ℕ → Scalar) : Type 0 where
  pub equal : (e x y : ℕ) → JoinsAt order.edges e x y → Contains (uses nodes) (variable_use x sort.Word) → Contains (uses nodes) (variable_use y sort.Word)
      → IsTrue (value_at (edge_truths atoms order.edges) e) ↔ (v x ≡ v y)

-- a word variable in no edge differs from every other one
pub record OthersDiffer (nodes : List Node) (order : Order) (v : ℕ → Scalar) : Type 0 where
  pub differ : (x y : ℕ) → ¬ IsEnd order.edges x → x ≢ y → Contains (uses nodes) (variable_use x sort.Word) → Contains (uses nodes) (variable_use y sort.Word) → v x ≢ v y

-- the laws of decoded values
abbrev pub DecodedEdgesTell : Type 0
DecodedEdgesTell = (nodes : List Node) (order : Order) (atoms : List (Atom × Bool)) (v : ℕ → Scalar) → IsOrder order → AreDecoded nodes order atoms v → EdgesTell nodes order atoms v

abbrev pub DecodedOthersDiffer : Type 0
DecodedOthersDiffer = (nodes : List Node) (order : Order) (atoms : List (Atom × Bool)) (v : ℕ → Scalar) → IsOrder order → AreDecoded nodes order atoms v → OthersDiffer nodes order v

abbrev pub DecodedHaveSorts : Type 0
DecodedHaveSorts = (nodes : List Node) (order : Order) (atoms : List (Atom × Bool)) (v : ℕ → Scalar) → AreDecoded nodes order atoms v → HaveSorts v nodes
