-- Symbols of terms with a mark.
use Rattle.std.specs.Prelude.{◌≡◌, ◌<◌, ℕ, Bool, true, List, Some, slice_get}
use Rattle.bd_terms.specs.declared.node.Sym.{Sym}
use Rattle.bd_terms.specs.declared.node.Node.{Node}
use Rattle.bd_terms.specs.declared.node.Node.TheVariants.{App}
use Rattle.bd_diverse.specs.declared.occurrences.Occurrences.{Occurrences}
use Rattle.bd_diverse.specs.inner.Walked.{is_any, ways_at}

-- the term is a word that applies the symbol
pub record AppliesSymbol (node : Node) (symbol : Sym) : Type 0 where
  pub args : List ℕ
  pub is : node ≡ App symbol args

-- a term before the place that passes the test applies the symbol
pub record AppliesBelow (nodes : List Node) (place : ℕ) (test : ℕ → Bool) (symbol : Sym) : Type 0 where
  pub id : ℕ
  pub args : List ℕ
  pub below : id < place
  pub there : slice_get nodes id ≡ Some (App symbol args)
  pub passes : test id ≡ true

abbrev pub is_compared : List Occurrences → ℕ → Bool
is_compared marks k = (ways_at marks k).compared

abbrev pub is_reached : List Occurrences → ℕ → Bool
is_reached marks k = is_any (ways_at marks k)
