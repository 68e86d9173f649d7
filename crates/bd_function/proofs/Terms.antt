-- The term of a variable.
use Rattle.std.proofs.Common.{◌≡◌, ℕ, true, List, [], ◌∷◌, refl, arith}
use Rattle.std.proofs.lemmas.Bool.{false≢true}
use Rattle.bd_model.specs.declared.design.Sort.{Sort}
use Rattle.bd_model.specs.declared.design.Sort.TheVariants as sort
use Rattle.bd_terms.specs.declared.node.Sym.TheVariants.{Var}
use Rattle.bd_terms.specs.declared.node.Node.{Node}
use Rattle.bd_terms.specs.declared.node.Node.TheVariants as node
use Rattle.bd_terms.specs.Graph.{AddsUses, Extends, HasSort, IsGraph}
use Rattle.bd_terms.specs.Denotation.{Denotes, Truth, Word, applied, holds, words}
use Rattle.bd_terms.specs.Simplified.{Gives, simplified}
use Rattle.bd_terms.proofs.Symbols.{uses-get}
use Rattle.bd_function.specs.inner.Taken.{AddsTerm, is_scalar, use_of}

pub AddsTerm-word : (old new : List Node) (var id : ℕ) → Extends old new → AddsUses old new (use_of (Var var) 0 sort.Word ∷ []) → HasSort new id sort.Word
    → Denotes new id (λ w. Word (applied w (Var var) (words w old []))) → Gives old new id (simplified old (node.App (Var var) [])) → IsGraph new → AddsTerm old new var id sort.Word
AddsTerm-word old new var id e u s d g k = record {
  extends = e;
  adds = u;
  applied = uses-get new id (node.App (Var var) []) g.stored (use_of (Var var) 0 sort.Word) (0, omega arith, refl);
  sorted = s;
  denotes = record { is = d.is };
  graph = k;
  stands = g.stored;
}

pub AddsTerm-truth : (old new : List Node) (var id : ℕ) → Extends old new → AddsUses old new (use_of (Var var) 0 sort.Bool ∷ []) → HasSort new id sort.Bool
    → Denotes new id (λ w. Truth (holds w (Var var) (words w old []))) → Gives old new id (simplified old (node.Pred (Var var) [])) → IsGraph new → AddsTerm old new var id sort.Bool
AddsTerm-truth old new var id e u s d g k = record {
  extends = e;
  adds = u;
  applied = uses-get new id (node.Pred (Var var) []) g.stored (use_of (Var var) 0 sort.Bool) (0, omega arith, refl);
  sorted = s;
  denotes = record { is = d.is };
  graph = k;
  stands = g.stored;
}

-- a scalar that is no word is a truth value
pub scalar-other : (s : Sort) → is_scalar s ≡ true → (s ≡ sort.Word → ⊥) → sort.Bool ≡ s
scalar-other sort.Bool h n = refl
scalar-other sort.Word h n = absurd (n refl)
scalar-other sort.Memory h n = absurd (false≢true h)
