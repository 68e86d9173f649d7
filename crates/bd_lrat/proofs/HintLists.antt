-- Hints as they are kept: numbers, and the places of those for resolutions on asymmetric tautologies.
use Rattle.std.proofs.Common.{◌≡◌, ℕ, zero, suc, ◌+◌, ◌<◌, ◌≤◌, Bool, true, false, cond, ◌||◌, eqb, List, [], ◌∷◌, ◌++◌, Some, length, get_or, map, refl, sym, ap, ◌∙◌, arith}
use Rattle.std.specs.List.{list_any, slice_get}
use Rattle.std.proofs.lemmas.Bool.{false≢true, eqb-true, ne_eqb, eq-eqb, or_from}
use Rattle.bd_lrat.specs.declared.line.Hint.{Hint}
use Rattle.bd_lrat.specs.declared.line.Hint.TheVariants.{Unit as UnitHint, Rat}
use Rattle.bd_lrat.specs.inner.Rising.{RisesWithin}
use Rattle.bd_lrat.specs.inner.Hints.{hints_from}
use Rattle.bd_lrat.proofs.Rising.{rises_bounds, none_below, rises_same}

-- a hint by the kind that its place has
abbrev pub hint_of : Bool → ℕ → Hint
hint_of b id = cond b (Rat id) (UnitHint id)

-- the hint at a place
pub hint_at : (n : ℕ) (ids rats : List ℕ) (k p d : ℕ) → p ≡ n + k → k < length ids → RisesWithin n (n + length ids) rats → slice_get (hints_from n ids rats) k ≡ Some (hint_of (list_any (λ r. eqb r p) rats) (get_or ids k d))
hint_at n [] rats k p d e h so = absurd (omega arith)
hint_at n (id ∷ ids) [] zero p d e h so = refl
hint_at n (id ∷ ids) [] (suc k) p d e h so = hint_at (n + 1) ids [] k p d (omega arith) (omega arith) (omega arith)
hint_at n (id ∷ ids) (r ∷ rats) k p d e h so = go (λ k. hint_at (n + 1) ids rats k p d) (λ k. hint_at (n + 1) ids (r ∷ rats) k p d) (eqb r n) refl k e h
  where
    Says : List ℕ → ℕ → Type 0
    Says rs k = p ≡ (n + 1) + k → k < length ids → RisesWithin (n + 1) ((n + 1) + length ids) rs → slice_get (hints_from (n + 1) ids rs) k ≡ Some (hint_of (list_any (λ x. eqb x p) rs) (get_or ids k d))

    Goal : Bool → ℕ → Type 0
    Goal b k = slice_get (cond b (Rat id ∷ hints_from (n + 1) ids rats) (UnitHint id ∷ hints_from (n + 1) ids (r ∷ rats))) k ≡ Some (hint_of (eqb r p || list_any (λ x. eqb x p) rats) (get_or (id ∷ ids) k d))

    go : ((k : ℕ) → Says rats k) → ((k : ℕ) → Says (r ∷ rats) k) → (b : Bool) → eqb r n ≡ b → (k : ℕ) → p ≡ n + k → k < length (id ∷ ids) → Goal b k
    go past here true is zero e h =
        let same : r ≡ n = eqb-true r n is in
        let found : r ≡ p = omega arith in
        ap (λ b. Some (hint_of (b || list_any (λ x. eqb x p) rats) id)) (sym (eq-eqb r p found))
    go past here true is (suc k) e h =
        let same : r ≡ n = eqb-true r n is in
        let moved : RisesWithin (n + 1) ((n + 1) + length ids) rats = rises_same (r + 1) (n + 1) (n + length (id ∷ ids)) ((n + 1) + length ids) rats (omega arith) (omega arith) so.1 in
        past k (omega arith) (omega arith) moved ∙ ap (λ b. Some (hint_of (b || list_any (λ x. eqb x p) rats) (get_or ids k d))) (sym (ne_eqb r p (λ f. absurd (omega arith))))
    go past here false is zero e h =
        let apart : r ≡ n → ⊥ = λ f. false≢true (sym is ∙ eq-eqb r n f) in
        let low : n ≤ r = so.0 in
        let none : (eqb r p || list_any (λ x. eqb x p) rats) ≡ false = or_from _ _ (ne_eqb r p (λ f. absurd (omega (arith, apart)))) (none_below (r + 1) (n + length (id ∷ ids)) rats p so.1 (omega arith)) in
        ap (λ b. Some (hint_of b id)) (sym none)
    go past here false is (suc k) e h =
        let apart : r ≡ n → ⊥ = λ f. false≢true (sym is ∙ eq-eqb r n f) in
        let low : n ≤ r = so.0 in
        here k (omega arith) (omega arith) (omega (arith, apart), rises_same (r + 1) (r + 1) (n + length (id ∷ ids)) ((n + 1) + length ids) rats refl (omega arith) so.1)

-- as many hints as numbers
pub length-hints_from : (n : ℕ) (ids rats : List ℕ) → length (hints_from n ids rats) ≡ length ids
length-hints_from n [] rats = refl
length-hints_from n (id ∷ ids) [] = omega (arith, length-hints_from (n + 1) ids [])
length-hints_from n (id ∷ ids) (r ∷ rats) = go (eqb r n) (length-hints_from (n + 1) ids rats) (length-hints_from (n + 1) ids (r ∷ rats))
  where
    go : (b : Bool) → length (hints_from (n + 1) ids rats) ≡ length ids → length (hints_from (n + 1) ids (r ∷ rats)) ≡ length ids → length (cond b (Rat id ∷ hints_from (n + 1) ids rats) (UnitHint id ∷ hints_from (n + 1) ids (r ∷ rats))) ≡ length (id ∷ ids)
    go true e f = omega (arith, e)
    go false e f = omega (arith, f)

pub hints_from-none : (n : ℕ) (ids : List ℕ) → hints_from n ids [] ≡ map (λ id. UnitHint id) ids
hints_from-none n [] = refl
hints_from-none n (id ∷ ids) = ap (λ hs. UnitHint id ∷ hs) (hints_from-none (n + 1) ids)

-- one more number is one more `Unit` hint
pub hints_from-push_unit : (n : ℕ) (ids rats : List ℕ) (id : ℕ) → RisesWithin n (n + length ids) rats → hints_from n (ids ++ id ∷ []) rats ≡ hints_from n ids rats ++ UnitHint id ∷ []
hints_from-push_unit n [] [] id so = refl
hints_from-push_unit n [] (r ∷ rats) id so = let low : n ≤ r = so.0 in let high : r + 1 ≤ n + 0 = rises_bounds (r + 1) (n + 0) rats so.1 in absurd (omega arith)
hints_from-push_unit n (x ∷ xs) [] id so = ap (λ hs. UnitHint x ∷ hs) (hints_from-push_unit (n + 1) xs [] id (omega arith))
hints_from-push_unit n (x ∷ xs) (r ∷ rats) id so = go (hints_from-push_unit (n + 1) xs rats id) (hints_from-push_unit (n + 1) xs (r ∷ rats) id) (eqb r n) refl
  where
    Says : List ℕ → Type 0
    Says rs = RisesWithin (n + 1) ((n + 1) + length xs) rs → hints_from (n + 1) (xs ++ id ∷ []) rs ≡ hints_from (n + 1) xs rs ++ UnitHint id ∷ []

    go : Says rats → Says (r ∷ rats) → (b : Bool) → eqb r n ≡ b → cond b (Rat x ∷ hints_from (n + 1) (xs ++ id ∷ []) rats) (UnitHint x ∷ hints_from (n + 1) (xs ++ id ∷ []) (r ∷ rats)) ≡ cond b (Rat x ∷ hints_from (n + 1) xs rats) (UnitHint x ∷ hints_from (n + 1) xs (r ∷ rats)) ++ UnitHint id ∷ []
    go past here true is =
        let same : r ≡ n = eqb-true r n is in
        ap (λ hs. Rat x ∷ hs) (past (rises_same (r + 1) (n + 1) (n + length (x ∷ xs)) ((n + 1) + length xs) rats (omega arith) (omega arith) so.1))
    go past here false is =
        let apart : r ≡ n → ⊥ = λ f. false≢true (sym is ∙ eq-eqb r n f) in
        let low : n ≤ r = so.0 in
        ap (λ hs. UnitHint x ∷ hs) (here (omega (arith, apart), rises_same (r + 1) (r + 1) (n + length (x ∷ xs)) ((n + 1) + length xs) rats refl (omega arith) so.1))

-- and with its place one more `Rat` hint
pub hints_from-push_rat : (n : ℕ) (ids rats : List ℕ) (id p : ℕ) → p ≡ n + length ids → RisesWithin n (n + length ids) rats → hints_from n (ids ++ id ∷ []) (rats ++ p ∷ []) ≡ hints_from n ids rats ++ Rat id ∷ []
hints_from-push_rat n [] [] id p e so = ap (λ b. cond b (Rat id ∷ []) (UnitHint id ∷ [])) (eq-eqb p n (omega arith))
hints_from-push_rat n [] (r ∷ rats) id p e so = let low : n ≤ r = so.0 in let high : r + 1 ≤ n + 0 = rises_bounds (r + 1) (n + 0) rats so.1 in absurd (omega arith)
hints_from-push_rat n (x ∷ xs) [] id p e so =
    ap (λ b. cond b (Rat x ∷ hints_from (n + 1) (xs ++ id ∷ []) []) (UnitHint x ∷ hints_from (n + 1) (xs ++ id ∷ []) (p ∷ []))) (ne_eqb p n (λ f. absurd (omega arith)))
    ∙ ap (λ hs. UnitHint x ∷ hs) (hints_from-push_rat (n + 1) xs [] id p (omega arith) (omega arith))
hints_from-push_rat n (x ∷ xs) (r ∷ rats) id p e so = go (hints_from-push_rat (n + 1) xs rats id p (omega arith)) (hints_from-push_rat (n + 1) xs (r ∷ rats) id p (omega arith)) (eqb r n) refl
  where
    Says : List ℕ → Type 0
    Says rs = RisesWithin (n + 1) ((n + 1) + length xs) rs → hints_from (n + 1) (xs ++ id ∷ []) (rs ++ p ∷ []) ≡ hints_from (n + 1) xs rs ++ Rat id ∷ []

    go : Says rats → Says (r ∷ rats) → (b : Bool) → eqb r n ≡ b → cond b (Rat x ∷ hints_from (n + 1) (xs ++ id ∷ []) (rats ++ p ∷ [])) (UnitHint x ∷ hints_from (n + 1) (xs ++ id ∷ []) (r ∷ rats ++ p ∷ [])) ≡ cond b (Rat x ∷ hints_from (n + 1) xs rats) (UnitHint x ∷ hints_from (n + 1) xs (r ∷ rats)) ++ Rat id ∷ []
    go past here true is =
        let same : r ≡ n = eqb-true r n is in
        ap (λ hs. Rat x ∷ hs) (past (rises_same (r + 1) (n + 1) (n + length (x ∷ xs)) ((n + 1) + length xs) rats (omega arith) (omega arith) so.1))
    go past here false is =
        let apart : r ≡ n → ⊥ = λ f. false≢true (sym is ∙ eq-eqb r n f) in
        let low : n ≤ r = so.0 in
        ap (λ hs. UnitHint x ∷ hs) (here (omega (arith, apart), rises_same (r + 1) (r + 1) (n + length (x ∷ xs)) ((n + 1) + length xs) rats refl (omega arith) so.1))
