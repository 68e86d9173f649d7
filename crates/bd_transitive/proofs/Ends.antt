-- Ends of edges.
use Rattle.std.proofs.Common.{ℕ, zero, suc, ◌<◌, List, [], ◌∷◌, length, get_or, sym, subst, arith}
use Rattle.std.specs.Prelude.{IsSomeAnd}
use Rattle.std.proofs.lemmas.Option.{slice_get-get_or}
use Rattle.bd_transitive.specs.declared.graph.Edge.{Edge}
use Rattle.bd_transitive.specs.Edges.{Joins, JoinsAt}

-- what stands for an edge past the end of a list
abbrev pub no_edge : Edge
no_edge = record { from = 0; to = 0 }

-- an edge by its number
pub joins_at : (edges : List Edge) (e a b : ℕ) (d : Edge) → e < length edges → Joins (get_or edges e d) a b → JoinsAt edges e a b
joins_at edges e a b d lt h = subst (λ o. IsSomeAnd o (λ edge. Joins edge a b)) (sym (slice_get-get_or edges e d lt)) h

pub joins_at-within : (edges : List Edge) (e a b : ℕ) → JoinsAt edges e a b → e < length edges
joins_at-within [] e a b h = absurd h
joins_at-within (x ∷ xs) zero a b h = omega arith
joins_at-within (x ∷ xs) (suc e) a b h = let k = joins_at-within xs e a b h in omega arith

pub joins_at-get : (edges : List Edge) (e a b : ℕ) (d : Edge) → JoinsAt edges e a b → Joins (get_or edges e d) a b
joins_at-get edges e a b d h = subst (λ o. IsSomeAnd o (λ edge. Joins edge a b)) (slice_get-get_or edges e d (joins_at-within edges e a b h)) h
