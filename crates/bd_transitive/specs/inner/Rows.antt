-- Rows: for each place a list of what leads from it to later places.
use Rattle.std.specs.Prelude.{◌≡◌, ◌⊎◌, ◌<◌, ◌≤◌, ◌==◌, ◌++◌, ℕ, Some, List, [], Contains, length, take, count_by, slice_get, slice_index_or}
use Rattle.bd_transitive.specs.declared.span.Span.{Span}
use Rattle.bd_transitive.specs.inner.Spans.{span}

-- the row of a place
abbrev pub row : List (List ℕ) → ℕ → List ℕ
row rows p = slice_index_or rows p []

-- from this place on, the rows have the ends of the spans
pub record HaveEnds (spans : List Span) (rows : List (List ℕ)) (from : ℕ) : Type 0 where
  pub sound : (p q : ℕ) → from ≤ p → Contains (row rows p) q → Contains spans (span p q)
  pub complete : (p q : ℕ) → from ≤ p → Contains spans (span p q) → Contains (row rows p) q

-- the rows have the numbers of the first spans
pub record HaveNumbers (spans : List Span) (rows : List (List ℕ)) (count : ℕ) : Type 0 where
  pub sound : (p d : ℕ) → Contains (row rows p) d → (d < count) × ((q : ℕ) × (slice_get spans d ≡ Some (span p q)))
  pub complete : (p q d : ℕ) → d < count → slice_get spans d ≡ Some (span p q) → Contains (row rows p) d
  pub size : (p : ℕ) → length (row rows p) ≡ count_by (λ s. s.low == p) (take count spans)

-- one place was joined to each of these others
pub record JoinedToAll (old new : List Span) (low : ℕ) (ends : List ℕ) : Type 0 where
  pub added : List Span
  pub grown : new ≡ old ++ added
  pub from_low : (a b : ℕ) → Contains added (span a b) → (a ≡ low) × Contains ends b × (low < b)
  pub all : (b : ℕ) → Contains ends b → (low ≡ b) ⊎ Contains new (span low b)
