-- The rules by which terms are simplified as they are built, and no others: no rule looks below a child, but to
-- see a negation.
use Rattle.std.specs.Prelude.{◌≡◌, ℕ, Bool, true, false, ◌||◌, ◌==◌, List, [], ◌∷◌, ◌++◌, ◌⊎◌, Option, Some, slice_get, if◌then◌else◌}
use Rattle.bd_terms.specs.declared.simplify.Outcome.{Outcome}
use Rattle.bd_terms.specs.declared.simplify.Outcome.TheVariants.{Same, Built}
use Rattle.bd_terms.specs.declared.node.Node.{Node}
use Rattle.bd_terms.specs.declared.node.Node.TheVariants.{True, Not, And, Or, Ite, Eq}

abbrev pub node_is_true : Option Node → Bool
node_is_true (Some True) = true
node_is_true _ = false

-- the node there is true
abbrev pub is_true : List Node → ℕ → Bool
is_true nodes id = node_is_true (slice_get nodes id)

abbrev pub node_is_false : List Node → Option Node → Bool
node_is_false nodes (Some (Not a)) = is_true nodes a
node_is_false nodes _ = false

-- the node there is the negation of true
abbrev pub is_false : List Node → ℕ → Bool
is_false nodes id = node_is_false nodes (slice_get nodes id)

abbrev pub negated : ℕ → Option Node → Outcome
negated a (Some (Not b)) = Same b
negated a _ = Built (Not a)

-- a double negation; and, or with a constant or equal children; ite with a constant control or equal branches;
-- equality of equal terms
abbrev pub simplified : List Node → Node → Outcome
simplified nodes (Not a) = negated a (slice_get nodes a)
simplified nodes (And a b) =
    if is_true nodes a || is_false nodes b || a == b then Same b
    else if is_false nodes a || is_true nodes b then Same a
    else Built (And a b)
simplified nodes (Or a b) =
    if is_false nodes a || is_true nodes b || a == b then Same b
    else if is_true nodes a || is_false nodes b then Same a
    else Built (Or a b)
simplified nodes (Ite c a b) =
    if is_true nodes c || a == b then Same a
    else if is_false nodes c then Same b
    else Built (Ite c a b)
simplified nodes (Eq a b) = if a == b then Built True else Built (Eq a b)
simplified nodes node = Built node

-- the graph with the node at the place: where it was, or after the others
pub record KeptAt (old new : List Node) (id : ℕ) (node : Node) : Type 0 where
  pub stored : slice_get new id ≡ Some node
  pub adds : (new ≡ old) ⊎ (new ≡ old ++ node ∷ [])

-- the graph with the term at the place
abbrev pub Gives : List Node → List Node → ℕ → Outcome → Type 0
Gives old new id (Same a) = (new ≡ old) × (id ≡ a)
Gives old new id (Built node) = KeptAt old new id node
