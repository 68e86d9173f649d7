-- Positive equality (Bryant, German and Velev 2001): a function symbol is positive where no equation that counts
-- negatively, or that chooses a branch of an ite, compares its applications. The count of negations is this project's own.
use Rattle.std.specs.Prelude.{◌≡◌, ℕ, List, [], ◌∷◌, Contains, Some, map, slice_get}
use Rattle.bd_terms.specs.declared.node.Sym.{Sym}
use Rattle.bd_terms.specs.declared.node.Node.{Node}
use Rattle.bd_terms.specs.declared.node.Node.TheVariants.{Not, And, Or, Ite, Eq, App}
use Rattle.bd_terms.specs.Graph.{children}

-- how a walk comes to a term: to a truth value under an even or an odd number of negations, or inside the control of an
-- ite; to a word as a leaf, through the branches of ites, of a side of a general equation, or otherwise. An equation is
-- general where a walk comes to it under an odd number of negations or inside the control of an ite.
pub data Way : Type 0 where
  Even : Way
  Odd : Way
  Control : Way
  Compared : Way
  Free : Way

-- under one negation more
abbrev pub negated : Way → Way
negated Even = Odd
negated Odd = Even
negated way = way

-- the way to the sides of an equation
abbrev pub side : Way → Way
side Odd = Compared
side Control = Compared
side way = Free

-- the terms that a walk goes on to
abbrev pub steps : Way → Node → List (Way × ℕ)
steps way (Not a) = (negated way, a) ∷ []
steps way (And a b) = (way, a) ∷ (way, b) ∷ []
steps way (Or a b) = (way, a) ∷ (way, b) ∷ []
steps way (Ite c a b) = (Control, c) ∷ (way, a) ∷ (way, b) ∷ []
steps way (Eq a b) = (side way, a) ∷ (side way, b) ∷ []
steps way node = map (λ c. (Free, c)) (children node)

-- a walk from the root comes to the term in this way
pub data Walks (nodes : List Node) (root : ℕ) : Way → ℕ → Type 0 where
  Root : Walks nodes root Even root
  Step : (way : Way) (id : ℕ) (node : Node) (next : Way) (c : ℕ) → Walks nodes root way id → slice_get nodes id ≡ Some node
      → Contains (steps way node) (next, c) → Walks nodes root next c

-- a walk comes in this way to a word that applies the symbol
pub record Applies (nodes : List Node) (root : ℕ) (way : Way) (symbol : Sym) : Type 0 where
  pub id : ℕ
  pub args : List ℕ
  pub walks : Walks nodes root way id
  pub there : slice_get nodes id ≡ Some (App symbol args)

-- a function symbol, none of whose applications is a leaf of a side of a general equation
pub record IsPositive (nodes : List Node) (root : ℕ) (symbol : Sym) : Type 0 where
  pub way : Way
  pub applied : Applies nodes root way symbol
  pub never : ¬ Applies nodes root Compared symbol
