-- Edges by the places of their ends in the order of the vertices.
use Rattle.std.specs.Prelude.{◌≡◌, ◌≢◌, ◌<◌, ◌==◌, ◌++◌, ℕ, Bool, Some, List, All, AllPairs, Contains, min, max, map, drop, take, length, slice_get, slice_index}
use Rattle.std.specs.List.{flat_map}
use Rattle.bd_cnf.specs.Literal.{Literal}
use Rattle.bd_transitive.specs.Orders.{place}
use Rattle.bd_transitive.specs.Clauses.{triangle_clauses}
use Rattle.bd_transitive.specs.Triangle.{IsNotTwo, Triangle, pair_count, triangle}
use Rattle.bd_transitive.specs.declared.graph.Edge.{Edge}
use Rattle.bd_transitive.specs.declared.graph.Order.{Order}
use Rattle.bd_transitive.specs.declared.span.Span.{Span}

-- the span from one place to another
abbrev pub span : ℕ → ℕ → Span
span low high = record { low = low; high = high }

-- the span between two places, whichever comes first
abbrev pub span_between : ℕ → ℕ → Span
span_between a b = span (min a b) (max a b)

-- the places of the two ends of an edge
abbrev pub span_of : List ℕ → Edge → Span
span_of vertices edge = span_between (place vertices edge.from) (place vertices edge.to)

-- the edge between the vertices at the two ends of a span
abbrev pub edge_at : List ℕ → Span → Edge
edge_at vertices s = record { from = slice_index vertices s.low; to = slice_index vertices s.high }

-- the order of the vertices with the given edges, and after them the edges of the further spans
abbrev pub filled_order : List ℕ → List Edge → List Span → Order
filled_order vertices given spans = record { vertices = vertices; edges = given ++ map (edge_at vertices) (drop (length given) spans) }

-- a span leads from a place to a later one, of that many places
abbrev pub IsSpan : ℕ → Span → Type 0
IsSpan count s = (s.low < s.high) × (s.high < count)

-- whether two spans begin at one place
abbrev pub same_low : Span → Span → Bool
same_low s t = s.low == t.low

-- each two spans from one place have a span between their ends
abbrev pub IsClosed : List Span → Type 0
IsClosed spans = (p a b : ℕ) → Contains spans (span p a) → Contains spans (span p b) → a < b → Contains spans (span a b)

-- the spans of the edges of an elimination order
pub record IsComplete (count : ℕ) (spans : List Span) : Type 0 where
  pub bounded : All (IsSpan count) spans
  pub distinct : AllPairs (λ s t. s ≢ t) spans
  pub closed : IsClosed spans

-- the spans of an order with its fill-in, where the given ones come first
pub record IsFilled (given spans : List Span) : Type 0 where
  pub added : List Span
  pub grown : spans ≡ given ++ added
  pub fill_in : (a b : ℕ) → Contains added (span a b) → (p : ℕ) × Contains spans (span p a) × Contains spans (span p b)

-- the spans by these numbers make a triangle
pub record IsSpanTriangle (spans : List Span) (d e f : ℕ) : Type 0 where
  pub low : ℕ
  pub left : ℕ
  pub right : ℕ
  pub to_left : slice_get spans d ≡ Some (span low left)
  pub to_right : slice_get spans e ≡ Some (span low right)
  pub across : slice_get spans f ≡ Some (span_between left right)

-- span number d comes before span number e, and leads from the same place
pub record IsEarlier (spans : List Span) (e d : ℕ) : Type 0 where
  pub before : d < e
  pub low : ℕ
  pub left : ℕ
  pub right : ℕ
  pub to_left : slice_get spans d ≡ Some (span low left)
  pub to_right : slice_get spans e ≡ Some (span low right)

-- in no triangle of spans are exactly two true
abbrev pub MeetsSpans : List Span → (ℕ → Bool) → Type 0
MeetsSpans spans value = (d e f : ℕ) → IsSpanTriangle spans d e f → IsNotTwo (value d) (value e) (value f)

-- the triangles of two of the first spans, each once
pub record AreTrianglesBelow (spans : List Span) (n : ℕ) (triangles : List Triangle) : Type 0 where
  pub each : All (λ t. (t.first < t.second) × IsSpanTriangle spans t.first t.second t.across) triangles
  pub all : (d e f : ℕ) → d < e → e < n → IsSpanTriangle spans d e f → Contains triangles (triangle d e f)
  pub counted : length triangles ≡ pair_count same_low (take n spans)

-- their clauses
pub record AreClausesBelow (spans : List Span) (vars : List ℕ) (n : ℕ) (clauses : List (List Literal)) : Type 0 where
  pub triangles : List Triangle
  pub are : AreTrianglesBelow spans n triangles
  pub is : clauses ≡ flat_map (triangle_clauses vars) triangles

-- the triangles of one span with each of a row of earlier ones
pub record AreFan (spans : List Span) (row : List ℕ) (e : ℕ) (triangles : List Triangle) : Type 0 where
  pub firsts : map (λ (t : Triangle). t.first) triangles ≡ row
  pub seconds : All (λ (t : Triangle). t.second ≡ e) triangles
  pub each : All (λ (t : Triangle). IsSpanTriangle spans t.first t.second t.across) triangles

-- their clauses come after the others
pub record AddsFan (spans : List Span) (vars row : List ℕ) (e : ℕ) (old new : List (List Literal)) : Type 0 where
  pub triangles : List Triangle
  pub are : AreFan spans row e triangles
  pub is : new ≡ old ++ flat_map (triangle_clauses vars) triangles
