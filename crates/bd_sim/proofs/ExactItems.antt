-- The exact items whose condition is true, found one by one.
use Rattle.std.proofs.Common.{◌≡◌, ◌↔◌, ◌∙◌, ℕ, suc, ◌+◌, ◌<◌, Bool, true, false, List, [], ◌∷◌, ◌++◌, length, get_or, drop, map, refl, sym, ap, subst, add-one, append_assoc, drop-cons}
use Rattle.std.specs.List.{AllByRecursion}
use Rattle.bd_model.specs.DesignView.{ExactView, exact_view}
use Rattle.bd_model.specs.ExprView.{expr_view}
use Rattle.bd_model.specs.Value.{Env, value_of, is_true}
use Rattle.bd_model.specs.declared.design.Exact.{Exact}
use Rattle.bd_model.specs.Conditions.{AllowsCount}
use Rattle.bd_sim.specs.ExactCounts.{counts_in}

-- a number is each of the counts exactly where each item allows it
pub counts_allow : (env : Env) (items : List ExactView) (j : ℕ) → AllByRecursion (λ n. n ≡ j) (counts_in env items) ↔ AllByRecursion (AllowsCount env j) items
counts_allow env [] j = (λ h. tt, λ h. tt)
counts_allow env (x ∷ xs) j = by_truth (is_true (value_of env x.when)) refl (counts_allow env xs j)
  where
    by_truth : (b : Bool) → is_true (value_of env x.when) ≡ b → AllByRecursion (λ n. n ≡ j) (counts_in env xs) ↔ AllByRecursion (AllowsCount env j) xs
        → AllByRecursion (λ n. n ≡ j) (counts_in env (x ∷ xs)) ↔ AllByRecursion (AllowsCount env j) (x ∷ xs)
    by_truth true holds rest = rw holds (λ h. (λ t. h.0, rest.0 h.1), λ h. (h.0 refl, rest.1 h.1))
    by_truth false fails rest = rw fails (λ h. (λ t. absurd (cc t), rest.0 h), λ h. rest.1 h.1)

front : (items : List Exact) (i : ℕ) (x : Exact) → i < length items → x ≡ get_or items i x → drop i items ≡ x ∷ drop (i + 1) items
front items i x within is = rw (add-one, drop-cons items i x) (ap (λ y. y ∷ drop (suc i) items) (sym is))

module _ (env : Env) (items : List Exact) (i : ℕ) where
  -- the counts so far, and those of the items that are left
  abbrev pub IsCounted : List ℕ → List ℕ → Type 0
  IsCounted counts all = counts ++ counts_in env (map exact_view (drop i items)) ≡ all

module _ (env : Env) (items : List Exact) (i : ℕ) (x : Exact) (counts new all : List ℕ) (within : i < length items) (is : x ≡ get_or items i x) (before : IsCounted env items i counts all) where
  here : counts ++ counts_in env (exact_view x ∷ map exact_view (drop (i + 1) items)) ≡ all
  here = subst (λ es. counts ++ counts_in env (map exact_view es) ≡ all) (front items i x within is) before

  -- an item whose condition is true adds its count
  pub counted_true : is_true (value_of env (expr_view x.when)) ≡ true → new ≡ counts ++ x.count ∷ [] → IsCounted env items (i + 1) new all
  counted_true holds put =
      ap (λ ns. ns ++ counts_in env (map exact_view (drop (i + 1) items))) put ∙ append_assoc counts (x.count ∷ []) (counts_in env (map exact_view (drop (i + 1) items))) ∙ rw holds at here

  -- an item whose condition is false adds none
  pub counted_false : is_true (value_of env (expr_view x.when)) ≡ false → new ≡ counts → IsCounted env items (i + 1) new all
  counted_false fails same = ap (λ ns. ns ++ counts_in env (map exact_view (drop (i + 1) items))) same ∙ rw fails at here
