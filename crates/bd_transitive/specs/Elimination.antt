-- Elimination by least degree (Tinney and Walker 1967, scheme 2; Bryant and Velev 2000): again and again a vertex with
-- fewest neighbours among those left is taken, once its neighbours are joined pairwise.
use Rattle.std.specs.Prelude.{◌≡◌, ◌⊎◌, ◌<◌, ◌≤◌, ◌==◌, ◌&&◌, ◌||◌, not, ℕ, Bool, List, [], ◌∷◌, All, count_by}
use Rattle.std.specs.List.{list_any}
use Rattle.bd_transitive.specs.declared.graph.Edge.{Edge}

-- whether an edge joins two vertices
abbrev pub joined_by : List Edge → ℕ → ℕ → Bool
joined_by edges a b = list_any (λ e. ((e.from == a) && (e.to == b)) || ((e.to == a) && (e.from == b))) edges

-- whether two of those left are joined once v is eliminated: they were, or both were joined to v
abbrev pub joined_without : ℕ → (ℕ → ℕ → Bool) → ℕ → ℕ → Bool
joined_without v joined a b = joined a b || ((joined v a && joined v b) && not (a == b))

-- how many of those left a vertex is joined to
abbrev pub degree : (ℕ → ℕ → Bool) → List ℕ → ℕ → ℕ
degree joined left v = count_by (joined v) left

-- a vertex has fewest neighbours among those left, and the least number among equals
abbrev pub HasLeastDegree : (ℕ → ℕ → Bool) → List ℕ → ℕ → Type 0
HasLeastDegree joined left v =
    All (λ w. (degree joined left v < degree joined left w) ⊎ ((degree joined left v ≡ degree joined left w) × (v ≤ w))) left

-- each vertex has, once those before it are eliminated
abbrev pub IsByLeastDegree : (ℕ → ℕ → Bool) → List ℕ → Type 0
IsByLeastDegree joined [] = Unit {0}
IsByLeastDegree joined (v ∷ left) = HasLeastDegree joined (v ∷ left) v × IsByLeastDegree (joined_without v joined) left
