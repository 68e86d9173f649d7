-- The clauses of triangles over the variables of their edges (Bryant and Velev 2000): each two edges of a triangle give
-- the third.
use Rattle.std.specs.Prelude.{◌≡◌, ℕ, true, false, List, [], ◌∷◌, min, max, nat_lt, slice_index, if◌then◌else◌}
use Rattle.std.specs.List.{flat_map}
use Rattle.bd_cnf.specs.Literal.{Literal, literal}
use Rattle.bd_transitive.specs.declared.graph.Order.{Order}
use Rattle.bd_transitive.specs.Triangle.{AreTriangles, Triangle}

-- two negative literals, the one of the lesser variable first, and a positive one in its place by variable
abbrev pub placed : ℕ → ℕ → ℕ → List Literal
placed low high third =
    if nat_lt third low then literal third true ∷ literal low false ∷ literal high false ∷ []
    else if nat_lt third high then literal low false ∷ literal third true ∷ literal high false ∷ []
    else literal low false ∷ literal high false ∷ literal third true ∷ []

-- where two variables are true, so is a third one
abbrev pub implication : ℕ → ℕ → ℕ → List Literal
implication a b c = placed (min a b) (max a b) c

-- not exactly two of three variables are true
abbrev pub not_two : ℕ → ℕ → ℕ → List (List Literal)
not_two a b c = implication a b c ∷ implication a c b ∷ implication b c a ∷ []

-- not exactly two edges of a triangle are true: its edges are taken by rising number
abbrev pub triangle_clauses : List ℕ → Triangle → List (List Literal)
triangle_clauses vars t =
    not_two
    (slice_index vars (min t.first t.across))
    (slice_index vars (max t.first (min t.across t.second)))
    (slice_index vars (max t.second t.across))

-- three clauses for each triangle of an order
pub record AreTriangleClauses (order : Order) (vars : List ℕ) (clauses : List (List Literal)) : Type 0 where
  pub triangles : List Triangle
  pub are : AreTriangles order triangles
  pub is : clauses ≡ flat_map (triangle_clauses vars) triangles
