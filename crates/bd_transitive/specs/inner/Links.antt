-- Links from places to later ones, and where they end.
use Rattle.std.specs.Prelude.{◌≡◌, ◌⊎◌, ◌<◌, ◌≤◌, ℕ, Bool, true, false, Some, List, length, slice_get, slice_index}
use Rattle.bd_transitive.specs.declared.span.Span.{Span}
use Rattle.bd_transitive.specs.inner.Spans.{span}

-- no true span of the first n leads from the place
abbrev pub HasNone : List Span → (ℕ → Bool) → ℕ → ℕ → Type 0
HasNone spans value n p = (e q : ℕ) → e < n → slice_get spans e ≡ Some (span p q) → value e ≡ false

-- some true span leads from one place to the other
abbrev pub HasOne : List Span → (ℕ → Bool) → ℕ → ℕ → Type 0
HasOne spans value p q = (e : ℕ) × (slice_get spans e ≡ Some (span p q)) × (value e ≡ true)

-- each place is linked to the end of a true span that leads from it, or to itself where none of the first n does
pub record AreLinks (spans : List Span) (value : ℕ → Bool) (count n : ℕ) (links : List ℕ) : Type 0 where
  pub size : length links ≡ count
  pub bounded : (p : ℕ) → p < count → (p ≤ slice_index links p) × (slice_index links p < count)
  pub linked : (p : ℕ) → p < count → ((slice_index links p ≡ p) × HasNone spans value n p) ⊎ HasOne spans value p (slice_index links p)

-- each place from this one on has the number of the place that it is linked to, or its own where that is itself
pub record AreFollowed (links ends : List ℕ) (from : ℕ) : Type 0 where
  pub size : length ends ≡ length links
  pub bounded : (p : ℕ) → p < length links → (p ≤ slice_index ends p) × (slice_index ends p < length links)
  pub own : (p : ℕ) → from ≤ p → p < length links → slice_index links p ≡ p → slice_index ends p ≡ p
  pub same : (p : ℕ) → from ≤ p → p < length links → slice_index ends p ≡ slice_index ends (slice_index links p)
