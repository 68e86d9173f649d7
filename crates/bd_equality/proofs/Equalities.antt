-- A conjunction of the equations between two lists of words, pair by pair.
use Rattle.std.proofs.Common.{◌≡◌, ℕ, ◌+◌, ◌≤◌, ◌==◌, ◌&&◌, Bool, true, false, List, Some, drop, length, slice_get, refl, ap, ◌∙◌, eqb-true}
use Rattle.std.proofs.lemmas.List.{drop_all}
use Rattle.bd_model.specs.declared.table.Scalar.{Scalar}
use Rattle.bd_terms.specs.declared.node.Node.{Node}
use Rattle.bd_terms.specs.declared.node.Node.TheVariants.{And, Eq}
use Rattle.bd_terms.specs.Denotation.{truth, word}
use Rattle.bd_terms.specs.Graph.{IsGraph}
use Rattle.bd_function.specs.Flat.{under}
use Rattle.bd_equality.specs.declared.equality.Rest.TheVariants.{Term, Nothing}
use Rattle.bd_equality.specs.inner.Rows.{RestFollows, equal_words}
use Rattle.bd_equality.proofs.Flats.{truth_is}
use Rattle.bd_equality.proofs.Rowing.{drop_at}

and_true : (b : Bool) → b ≡ (b && true)
and_true true = refl
and_true false = refl

module _ (nodes : List Node) where
  -- a term that is the equation of two words
  abbrev pub IsEquationOf : ℕ → ℕ → ℕ → Type 0
  IsEquationOf id a b = (v : ℕ → Scalar) → truth (under v) nodes id ≡ (word (under v) nodes a == word (under v) nodes b)

  pub equation_is : IsGraph nodes → (id a b x y : ℕ) → slice_get nodes id ≡ Some (Eq x y) → (x == a) ≡ true → (y == b) ≡ true → IsEquationOf id a b
  equation_is g id a b x y there e f v = truth_is nodes g id (Eq x y) there v ∙ (λ i. word (under v) nodes (eqb-true x a e i) == word (under v) nodes (eqb-true y b f i))

  -- what is left after it
  pub rest_more : IsGraph nodes → (id one more a b : ℕ) → slice_get nodes id ≡ Some (And one more) → IsEquationOf one a b → RestFollows nodes (Term id) a b (Term more)
  rest_more g id one more a b there is = record { follows = λ v c h. truth_is nodes g id (And one more) there v ∙ (λ i. is v i && h i) }

  pub rest_last : (id a b : ℕ) → IsEquationOf id a b → RestFollows nodes (Term id) a b Nothing
  rest_last id a b is = record { follows = λ v c h. is v ∙ and_true _ ∙ ap (λ t. (word (under v) nodes a == word (under v) nodes b) && t) h }

  -- one pair, and the others
  pub words_more : (v : ℕ → Scalar) (left right : List ℕ) (i a b : ℕ) → slice_get left i ≡ Some a → slice_get right i ≡ Some b
      → equal_words nodes v (drop i left) (drop i right) ≡ ((word (under v) nodes a == word (under v) nodes b) && equal_words nodes v (drop (i + 1) left) (drop (i + 1) right))
  words_more v left right i a b l r = λ k. equal_words nodes v (drop_at left i a l k) (drop_at right i b r k)

  pub words_end : (v : ℕ → Scalar) (left right : List ℕ) (n : ℕ) → length left ≤ n → length right ≤ n → equal_words nodes v (drop n left) (drop n right) ≡ true
  words_end v left right n l r = λ k. equal_words nodes v (drop_all n left l k) (drop_all n right r k)
