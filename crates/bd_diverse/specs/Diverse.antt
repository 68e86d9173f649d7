-- Diverse worlds (Bryant, German and Velev 2001, who call them maximally diverse).
use Rattle.std.specs.Prelude.{◌≡◌, ◌≢◌, ℕ, List, [], Contains, Some, slice_get}
use Rattle.bd_terms.specs.declared.node.Sym.{Sym}
use Rattle.bd_terms.specs.declared.node.Sym.TheVariants.{Function}
use Rattle.bd_terms.specs.declared.node.Node.{Node}
use Rattle.bd_terms.specs.declared.node.Node.TheVariants.{App}
use Rattle.bd_terms.specs.Denotation.{World, applied, words}
use Rattle.bd_terms.specs.Reaches.{Reaches}
use Rattle.bd_diverse.specs.Positive.{IsPositive}

-- the root reaches a word that applies the symbol to these terms
pub record IsReached (nodes : List Node) (root : ℕ) (symbol : Sym) (args : List ℕ) : Type 0 where
  pub id : ℕ
  pub reached : Reaches nodes root id
  pub there : slice_get nodes id ≡ Some (App symbol args)

-- an application of a positive symbol has the value of another reached application only if both have the same symbol and
-- arguments of equal values
pub record IsDiverse (w : World) (nodes : List Node) (root : ℕ) : Type 0 where
  pub apart : (s t : Sym) (xs ys : List ℕ) → IsReached nodes root s xs → IsReached nodes root t ys → IsPositive nodes root s
      → applied w s (words w nodes xs) ≡ applied w t (words w nodes ys) → (s ≡ t) × (words w nodes xs ≡ words w nodes ys)

-- two functions of arity 0 whose values differ in the one world have different values in the other
pub record KeepsApart (old new : World) : Type 0 where
  pub apart : (f g : ℕ) → applied old (Function f) [] ≢ applied old (Function g) []
      → applied new (Function f) [] ≢ applied new (Function g) []
