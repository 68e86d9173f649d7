-- A fold over what the items of a tree name, item by item.
use Rattle.std.proofs.Common.{◌≡◌, ℕ, ◌<◌, ◌+◌, List, [], ◌∷◌, length, get_or, drop, fold, All, refl, ap, sym, ◌∙◌, subst, suc, arith}
use Rattle.std.proofs.lemmas.List.{drop_more}
use Rattle.bd_prop.specs.declared.choices.Choice.{Choice}
use Rattle.bd_prop.specs.Node.{named}

-- what is made of a list when the items from k on are left
pub record IsFolded {X : Type 0} (f : List X → ℕ → List X) (initial : List X) (all : List Choice) (k : ℕ) (xs : List X) : Type 0 where
  pub size : length xs ≡ length initial
  pub low : All (λ c. c < length initial) (named (drop k all))
  pub done : fold f xs (named (drop k all)) ≡ fold f initial (named all)

module _ {X : Type 0} (f : List X → ℕ → List X) (keeps : (xs : List X) (a : ℕ) → length (f xs a) ≡ length xs) (initial : List X) (all : List Choice) (k : ℕ) (item d : Choice) (xs : List X)
    (inside : k < length all) (here : get_or all k d ≡ item) (is : IsFolded f initial all k xs) where
  parts : drop k all ≡ item ∷ drop (k + 1) all
  parts = drop_more all k d inside ∙ ap (λ x. x ∷ drop (k + 1) all) here

  pub folded_low : (a : ℕ) → named (item ∷ drop (k + 1) all) ≡ a ∷ named (drop (k + 1) all) → a < length xs
  folded_low a one =
      let low : All (λ c. c < length initial) (a ∷ named (drop (k + 1) all)) = subst (All (λ c. c < length initial)) (ap named parts ∙ one) is.low in
      let first : a < length initial = low 0 a (omega arith) in
      omega (arith, is.size)

  pub folded_one : (a : ℕ) → named (item ∷ drop (k + 1) all) ≡ a ∷ named (drop (k + 1) all) → IsFolded f initial all (k + 1) (f xs a)
  folded_one a one =
      let same = ap named parts ∙ one in
      let low : All (λ c. c < length initial) (a ∷ named (drop (k + 1) all)) = subst (All (λ c. c < length initial)) same is.low in
      record {
        size = keeps xs a ∙ is.size;
        low = λ j e h. low (suc j) e (omega arith);
        done = sym (ap (fold f xs) same) ∙ is.done;
      }

  pub folded_none : named (item ∷ drop (k + 1) all) ≡ named (drop (k + 1) all) → IsFolded f initial all (k + 1) xs
  folded_none none =
      let same = ap named parts ∙ none in
      record {
        size = is.size;
        low = subst (All (λ c. c < length initial)) same is.low;
        done = sym (ap (fold f xs) same) ∙ is.done;
      }
