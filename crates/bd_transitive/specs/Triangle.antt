-- Transitivity of equality on the triangles of an elimination order (Bryant and Velev 2000). An edge's truth
-- value says whether its ends are equal; `value e` is that of edge number e, from 0.
use Rattle.std.specs.Prelude.{◌≡◌, ◌≢◌, ◌↔◌, ◌<◌, ◌+◌, ◌==◌, ℕ, Bool, false, List, [], ◌∷◌, All, Contains, length, min, IsTrue, count_by, slice_index, slice_index_or}
use Rattle.bd_transitive.specs.Edges.{JoinsAt}
use Rattle.bd_transitive.specs.Orders.{place}
use Rattle.bd_transitive.specs.declared.graph.Edge.{Edge}
use Rattle.bd_transitive.specs.declared.graph.Order.{Order}

-- three edges, by their numbers: two that lead from a vertex to later neighbours, and the one that joins these
pub record IsTriangle (order : Order) (d e f : ℕ) : Type 0 where
  pub vertex : ℕ
  pub left : ℕ
  pub right : ℕ
  pub to_left : JoinsAt order.edges d vertex left
  pub to_right : JoinsAt order.edges e vertex right
  pub across : JoinsAt order.edges f left right
  pub left_later : place order.vertices vertex < place order.vertices left
  pub right_later : place order.vertices vertex < place order.vertices right

-- the numbers of the three edges of a triangle
pub record Triangle : Type 0 where
  pub first : ℕ
  pub second : ℕ
  pub across : ℕ

abbrev pub triangle : ℕ → ℕ → ℕ → Triangle
triangle d e f = record { first = d; second = e; across = f }

-- not exactly two of the three are true
abbrev pub IsNotTwo : Bool → Bool → Bool → Type 0
IsNotTwo a b c = count_by (λ x. x) (a ∷ b ∷ c ∷ []) ≢ 2

-- in no triangle are exactly two edges true
abbrev pub MeetsTriangles : Order → (ℕ → Bool) → Type 0
MeetsTriangles order value = (d e f : ℕ) → IsTriangle order d e f → IsNotTwo (value d) (value e) (value f)

-- two ends of an edge have the same class exactly where the edge is true
abbrev pub AgreesWithClasses : List Edge → (ℕ → Bool) → (ℕ → ℕ) → Type 0
AgreesWithClasses edges value class = (e a b : ℕ) → JoinsAt edges e a b → IsTrue (value e) ↔ (class a ≡ class b)

-- the value of an edge's variable, where the variables are listed by the numbers of the edges
abbrev pub edge_value : (ℕ → Bool) → List ℕ → ℕ → Bool
edge_value v vars e = v (slice_index vars e)

-- the value of edge number e in a list of values
abbrev pub value_at : List Bool → ℕ → Bool
value_at values e = slice_index_or values e false

-- the class of a vertex in a list of classes by the order's vertices
abbrev pub class_of : List ℕ → List ℕ → ℕ → ℕ
class_of vertices classes v = slice_index_or classes (place vertices v) 0

-- no true edge leads from the vertex to one that is eliminated after it
abbrev pub HasNoTrueLater : Order → (ℕ → Bool) → ℕ → Type 0
HasNoTrueLater order value v = (e a : ℕ) → JoinsAt order.edges e v a → place order.vertices v < place order.vertices a → value e ≡ false

-- such a vertex begins a class, whose number is its place
abbrev pub BeginClasses : Order → (ℕ → Bool) → List ℕ → Type 0
BeginClasses order value classes = (v : ℕ) → Contains order.vertices v → HasNoTrueLater order value v → class_of order.vertices classes v ≡ place order.vertices v

-- the place of the end of an edge that is eliminated first
abbrev pub earlier_place : List ℕ → Edge → ℕ
earlier_place vertices edge = min (place vertices edge.from) (place vertices edge.to)

-- of how many pairs of a list the test is true
abbrev pub pair_count : {X : Type 0} → (X → X → Bool) → List X → ℕ
pair_count test [] = 0
pair_count test (x ∷ xs) = count_by (test x) xs + pair_count test xs

-- how many triangles: each two edges that lead from one vertex to later neighbours make one
abbrev pub triangle_count : Order → ℕ
triangle_count order = pair_count (λ d e. earlier_place order.vertices d == earlier_place order.vertices e) order.edges

-- all triangles of an order, each once: the edge with the lesser number of the two from one vertex is the first
pub record AreTriangles (order : Order) (triangles : List Triangle) : Type 0 where
  pub each : All (λ t. (t.first < t.second) × IsTriangle order t.first t.second t.across) triangles
  pub all : (d e f : ℕ) → d < e → IsTriangle order d e f → Contains triangles (triangle d e f)
  pub counted : length triangles ≡ triangle_count order
