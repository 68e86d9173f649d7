-- Terms of the entries and inputs before the first cycle.
use Rattle.std.specs.Prelude.{◌≡◌, ℕ, suc, List, [], ◌∷◌}
use Rattle.bd_model.specs.Fits.{value_sort}
use Rattle.bd_model.specs.declared.design.Sort.{Sort}
use Rattle.bd_model.specs.declared.table.Value.{Value}
use Rattle.bd_terms.specs.declared.node.Sym.{Sym}
use Rattle.bd_terms.specs.declared.node.Node.{Node}
use Rattle.bd_terms.specs.Graph.{KeepsSymbol, Use}
use Rattle.bd_terms.specs.Graph.{HasSort as TermHasSort}
use Rattle.bd_terms.specs.Denotation.{World, denoted}
use Rattle.bd_symbolic.specs.Made.{Called, first_node}
use Rattle.bd_symbolic.specs.World.{denotes_value, value_table}

abbrev pub KeepsUse : List Node → Use → Type 0
KeepsUse nodes u = KeepsSymbol nodes u.symbol u.arity u.sort

-- a term of this sort, which denotes a value of the sort wherever the symbol's table is that of the value
pub record IsFirstTerm (nodes : List Node) (symbol : Sym) (s : Sort) (id : ℕ) : Type 0 where
  pub sorted : TermHasSort nodes id s
  pub denotes : (w : World) (v : Value) → value_sort v ≡ s → w symbol ≡ value_table v → denoted w nodes id ≡ denotes_value v
  pub made : Called nodes (first_node symbol s) id

-- such a term for each sort, where the symbols are numbered from n
abbrev pub FirstTerms : (ℕ → Sym) → List Node → ℕ → List ℕ → List Sort → Type 0
FirstTerms symbol nodes n [] [] = Unit {0}
FirstTerms symbol nodes n (id ∷ ids) (s ∷ sorts) =
    IsFirstTerm nodes (symbol n) s id × FirstTerms symbol nodes (suc n) ids sorts
FirstTerms symbol nodes n ids sorts = ⊥
