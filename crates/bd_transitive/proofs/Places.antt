-- Places of vertices in a list without repeats.
use Rattle.std.proofs.Common.{◌≡◌, ◌≢◌, ℕ, ◌<◌, ◌≤◌, cond, List, length, get_or, eqb, position, AllPairs, Contains, None, Some, refl, sym, ap, ◌∙◌, arith, ⊎_elim}
use Rattle.std.specs.Prelude.{unwrap_or}
use Rattle.std.proofs.lemmas.Bool.{eqb-true, eq-eqb, ne_eqb, true≢false, cases_lt, lt-ltb, le-ltb}
use Rattle.std.proofs.lemmas.List.Sums.{position_or_len_is, fails_before_first, passes_at_first, prefix_len-le-length}
use Rattle.bd_transitive.specs.Orders.{place}

-- a place is at most the number of vertices
pub place-le : (vs : List ℕ) (v : ℕ) → place vs v ≤ length vs
place-le vs v = prefix_len-le-length _ vs

-- what a look-up answers, where the default is the number of vertices
pub unwrap_or-position : (vs : List ℕ) (v : ℕ) → unwrap_or (position (eqb v) vs) (length vs) ≡ place vs v
unwrap_or-position vs v = ⊎_elim
    (λ lt. ap (λ b. unwrap_or (cond b (Some (place vs v)) None) (length vs)) (lt-ltb (place vs v) (length vs) lt))
    (λ ge. ap (λ b. unwrap_or (cond b (Some (place vs v)) None) (length vs)) (le-ltb (place vs v) (length vs) ge) ∙ omega (arith, place-le vs v))
    (cases_lt (place vs v) (length vs))

-- a vertex stands at its place
pub get-place : (vs : List ℕ) (v d : ℕ) → place vs v < length vs → get_or vs (place vs v) d ≡ v
get-place vs v d lt = sym (eqb-true v _ (passes_at_first (eqb v) vs d lt))

-- vertices with one place are the same
pub place-injective : (vs : List ℕ) (v w : ℕ) → place vs v < length vs → place vs v ≡ place vs w → v ≡ w
place-injective vs v w lt e = sym (get-place vs v 0 lt) ∙ ap (λ p. get_or vs p 0) e ∙ get-place vs w 0 (omega arith)

-- a vertex that is there has a place
pub place-Contains : (vs : List ℕ) (v : ℕ) → Contains vs v → place vs v < length vs
place-Contains vs v at = ⊎_elim
    (λ lt. lt)
    (λ ge. absurd (true≢false (sym (eq-eqb v _ (sym at.2)) ∙ fails_before_first (eqb v) vs at.0 v (omega (arith, at.1)))))
    (cases_lt (place vs v) (length vs))

-- the place of what stands at a number is the number
pub place-get : (vs : List ℕ) (k d : ℕ) → AllPairs (λ v w. v ≢ w) vs → k < length vs → place vs (get_or vs k d) ≡ k
place-get vs k d apart lt =
    position_or_len_is (eqb (get_or vs k d)) vs k d (omega arith)
    (λ j below. ne_eqb _ _ (λ e. apart j k d below lt (sym e)))
    (λ _. eq-eqb _ _ refl)
