-- What stands under an id, after an addition and after a deletion.
use Rattle.std.proofs.Common.{◌≡◌, ℕ, zero, suc, ◌+◌, ◌<◌, ◌≤◌, Bool, true, false, cond, eqb, List, [], ◌∷◌, ◌++◌, None, Some, length, get_or, set, refl, sym, ap, ◌∙◌, arith, length-append}
use Rattle.std.specs.Ordering.{nat_cmp, eq_by_cmp}
use Rattle.std.specs.Cmp.{nat_cmp_total}
use Rattle.std.specs.FinMap.{get, insert, remove, find, from_entries, get-from_entries, get-remove, from_entries_push, same_map, nat_cmp-IsAntisymmetric}
use Rattle.std.proofs.lemmas.Bool.{false≢true, eqb-true, eq-eqb, ne_eqb}
use Rattle.bd_cnf.specs.Literal.{Literal}
use Rattle.bd_lrat.specs.inner.Rising.{RisesWithin}
use Rattle.bd_lrat.specs.inner.Store.{entries, standing_of, IsStore}
use Rattle.bd_lrat.proofs.Keys.{tied}
use Rattle.bd_lrat.proofs.Rising.{rises_from, rises_push, rises_more, rises_bounds}

module _ {X : Type 0} where
  skip_head : (b : Bool) (id q : ℕ) (x : X) (es : List (ℕ × X)) → (q ≡ id → ⊥) → find nat_cmp q (cond b ((id, x) ∷ es) es) ≡ find nat_cmp q es
  skip_head true id q x es apart = ap (λ b. cond b (Some x) (find nat_cmp q es)) (tied q id ∙ ne_eqb q id apart)
  skip_head false id q x es apart = refl

  hit_head : (b : Bool) (id q : ℕ) (x : X) (es : List (ℕ × X)) → q ≡ id → find nat_cmp q es ≡ None → find nat_cmp q (cond b ((id, x) ∷ es) es) ≡ cond b (Some x) None
  hit_head true id q x es same none = ap (λ b. cond b (Some x) (find nat_cmp q es)) (tied q id ∙ eq-eqb q id same)
  hit_head false id q x es same none = none

-- an id that was never given has no clause
find_missing : (ids : List ℕ) (stands : List Bool) (cs : List (List Literal)) (q : ℕ) → ((k : ℕ) → k < length ids → get_or ids k 0 ≡ q → ⊥) → find nat_cmp q (entries ids stands cs) ≡ None
find_missing [] stands cs q apart = refl
find_missing (id ∷ ids) [] cs q apart = refl
find_missing (id ∷ ids) (s ∷ stands) [] q apart = refl
find_missing (id ∷ ids) (s ∷ stands) (c ∷ cs) q apart =
    skip_head s id q c (entries ids stands cs) (λ e. apart zero (omega arith) (sym e))
    ∙ find_missing ids stands cs q (λ k h e. apart (suc k) (omega arith) e)

find_below : (ids : List ℕ) (stands : List Bool) (cs : List (List Literal)) (q low high : ℕ) → RisesWithin low high ids → q < low → find nat_cmp q (entries ids stands cs) ≡ None
find_below ids stands cs q low high rising h = find_missing ids stands cs q (λ k here e. let above : low ≤ get_or ids k 0 = rises_from low high ids rising k here in absurd (omega arith))

-- the clause under the id at a place
find_at : (ids : List ℕ) (stands : List Bool) (cs : List (List Literal)) (i low high : ℕ) (d : Bool) → RisesWithin low high ids → length stands ≡ length ids → length cs ≡ length ids → i < length ids → find nat_cmp (get_or ids i 0) (entries ids stands cs) ≡ cond (get_or stands i d) (Some (get_or cs i [])) None
find_at [] stands cs i low high d rising marked filled h = absurd (omega arith)
find_at (id ∷ ids) [] cs i low high d rising marked filled h = absurd (omega arith)
find_at (id ∷ ids) (s ∷ stands) [] i low high d rising marked filled h = absurd (omega arith)
find_at (id ∷ ids) (s ∷ stands) (c ∷ cs) zero low high d rising marked filled h =
    hit_head s id id c (entries ids stands cs) refl (find_below ids stands cs id (id + 1) high rising.1 (omega arith))
find_at (id ∷ ids) (s ∷ stands) (c ∷ cs) (suc i) low high d rising marked filled h =
    let above : id + 1 ≤ get_or ids i 0 = rises_from (id + 1) high ids rising.1 i (omega arith) in
    skip_head s id (get_or ids i 0) c (entries ids stands cs) (λ e. absurd (omega arith))
    ∙ find_at ids stands cs i (id + 1) high d rising.1 (omega arith) (omega arith) (omega arith)

entries-push : (ids : List ℕ) (stands : List Bool) (cs : List (List Literal)) (id : ℕ) (clause : List Literal) → length stands ≡ length ids → length cs ≡ length ids → entries (ids ++ id ∷ []) (stands ++ true ∷ []) (cs ++ clause ∷ []) ≡ entries ids stands cs ++ (id, clause) ∷ []
entries-push [] [] [] id clause marked filled = refl
entries-push [] [] (c ∷ cs) id clause marked filled = absurd (omega arith)
entries-push [] (s ∷ stands) cs id clause marked filled = absurd (omega arith)
entries-push (x ∷ ids) [] cs id clause marked filled = absurd (omega arith)
entries-push (x ∷ ids) (s ∷ stands) [] id clause marked filled = absurd (omega arith)
entries-push (x ∷ ids) (s ∷ stands) (c ∷ cs) id clause marked filled = go s (entries-push ids stands cs id clause (omega arith) (omega arith))
  where
    go : (b : Bool) → entries (ids ++ id ∷ []) (stands ++ true ∷ []) (cs ++ clause ∷ []) ≡ entries ids stands cs ++ (id, clause) ∷ [] → cond b ((x, c) ∷ entries (ids ++ id ∷ []) (stands ++ true ∷ []) (cs ++ clause ∷ [])) (entries (ids ++ id ∷ []) (stands ++ true ∷ []) (cs ++ clause ∷ [])) ≡ cond b ((x, c) ∷ entries ids stands cs) (entries ids stands cs) ++ (id, clause) ∷ []
    go true e = ap (λ es. (x, c) ∷ es) e
    go false e = e

find_removed : (ids : List ℕ) (stands : List Bool) (cs : List (List Literal)) (i low high : ℕ) → RisesWithin low high ids → length stands ≡ length ids → length cs ≡ length ids → i < length ids → (q : ℕ) → find nat_cmp q (entries ids (set stands i false) cs) ≡ cond (eqb q (get_or ids i 0)) None (find nat_cmp q (entries ids stands cs))
find_removed [] stands cs i low high rising marked filled h q = absurd (omega arith)
find_removed (id ∷ ids) [] cs i low high rising marked filled h q = absurd (omega arith)
find_removed (id ∷ ids) (s ∷ stands) [] i low high rising marked filled h q = absurd (omega arith)
find_removed (id ∷ ids) (s ∷ stands) (c ∷ cs) zero low high rising marked filled h q = go (eqb q id) refl
  where
    go : (b : Bool) → eqb q id ≡ b → find nat_cmp q (entries ids stands cs) ≡ cond b None (find nat_cmp q (cond s ((id, c) ∷ entries ids stands cs) (entries ids stands cs)))
    go true e = let same : q ≡ id = eqb-true q id e in find_below ids stands cs q (id + 1) high rising.1 (omega arith)
    go false e = sym (skip_head s id q c (entries ids stands cs) (λ f. false≢true (sym e ∙ eq-eqb q id f)))
find_removed (id ∷ ids) (s ∷ stands) (c ∷ cs) (suc i) low high rising marked filled h q =
    go (find_removed ids stands cs i (id + 1) high rising.1 (omega arith) (omega arith) (omega arith) q) s (eqb q id) refl
  where
    go : find nat_cmp q (entries ids (set stands i false) cs) ≡ cond (eqb q (get_or ids i 0)) None (find nat_cmp q (entries ids stands cs)) → (b t : Bool) → eqb q id ≡ t → find nat_cmp q (cond b ((id, c) ∷ entries ids (set stands i false) cs) (entries ids (set stands i false) cs)) ≡ cond (eqb q (get_or ids i 0)) None (find nat_cmp q (cond b ((id, c) ∷ entries ids stands cs) (entries ids stands cs)))
    go rest false t e = rest
    go rest true true e =
        let same : q ≡ id = eqb-true q id e in
        let up : id + 1 ≤ get_or ids i 0 = rises_from (id + 1) high ids rising.1 i (omega arith) in
        let here : (es : List (ℕ × List Literal)) → find nat_cmp q ((id, c) ∷ es) ≡ Some c = λ es. ap (λ x. cond x (Some c) (find nat_cmp q es)) (tied q id ∙ e) in
        here (entries ids (set stands i false) cs) ∙ sym (here (entries ids stands cs))
        ∙ ap (λ x. cond x None (find nat_cmp q ((id, c) ∷ entries ids stands cs))) (sym (ne_eqb q (get_or ids i 0) (λ f. absurd (omega arith))))
    go rest true false e =
        let past : (es : List (ℕ × List Literal)) → find nat_cmp q ((id, c) ∷ es) ≡ find nat_cmp q es = λ es. ap (λ x. cond x (Some c) (find nat_cmp q es)) (tied q id ∙ e) in
        past (entries ids (set stands i false) cs) ∙ rest ∙ ap (cond (eqb q (get_or ids i 0)) None) (sym (past (entries ids stands cs)))

-- rising numbers are below their bound
below_bound : (xs : List ℕ) (low high : ℕ) → RisesWithin low high xs → (k : ℕ) → k < length xs → get_or xs k 0 < high
below_bound [] low high up k h = absurd (omega arith)
below_bound (x ∷ xs) low high up zero h = let end : x + 1 ≤ high = rises_bounds (x + 1) high xs up.1 in omega arith
below_bound (x ∷ xs) low high up (suc k) h = below_bound xs (x + 1) high up.1 k (omega arith)

module _ (last : ℕ) (ids : List ℕ) (stands : List Bool) (cs : List (List Literal)) (is : IsStore last ids stands cs) where
  pub get_placed : (i id : ℕ) (d : Bool) → i < length ids → get_or ids i 0 ≡ id → get (standing_of ids stands cs) id ≡ cond (get_or stands i d) (Some (get_or cs i [])) None
  get_placed i id d h same =
      get-from_entries nat_cmp_total (entries ids stands cs) id ∙ ap (λ q. find nat_cmp q (entries ids stands cs)) (sym same) ∙ find_at ids stands cs i 1 (last + 1) d is.rising is.marked is.filled h

  pub get_missing : (id : ℕ) → ((k : ℕ) → k < length ids → get_or ids k 0 ≡ id → ⊥) → get (standing_of ids stands cs) id ≡ None
  get_missing id apart = get-from_entries nat_cmp_total (entries ids stands cs) id ∙ find_missing ids stands cs id apart

  pub standing_insert : (id : ℕ) (clause : List Literal) → last < id → standing_of (ids ++ id ∷ []) (stands ++ true ∷ []) (cs ++ clause ∷ []) ≡ insert (standing_of ids stands cs) id clause
  standing_insert id clause above =
      ap from_entries (entries-push ids stands cs id clause is.marked is.filled)
      ∙ from_entries_push nat_cmp_total nat_cmp-IsAntisymmetric (entries ids stands cs) id clause (find_missing ids stands cs id (λ k h e. absurd (past k h e)))
    where
      past : (k : ℕ) → k < length ids → get_or ids k 0 ≡ id → ⊥
      past k h e = let low : get_or ids k 0 < last + 1 = below_bound ids 1 (last + 1) is.rising k h in omega arith

  pub store_insert : (id : ℕ) (clause : List Literal) → last < id → IsStore id (ids ++ id ∷ []) (stands ++ true ∷ []) (cs ++ clause ∷ [])
  store_insert id clause above = record {
    marked = omega (arith, length-append ids (id ∷ []), length-append stands (true ∷ []), is.marked);
    filled = omega (arith, length-append ids (id ∷ []), length-append cs (clause ∷ []), is.filled);
    rising = rises_push 1 id ids (rises_more 1 (last + 1) id ids (omega arith) is.rising);
  }

  pub standing_remove : (i id : ℕ) → i < length ids → get_or ids i 0 ≡ id → standing_of ids (set stands i false) cs ≡ remove (standing_of ids stands cs) id
  standing_remove i id h same = same_map nat_cmp_total nat_cmp-IsAntisymmetric _ _ (λ q.
      get-from_entries nat_cmp_total (entries ids (set stands i false) cs) q
      ∙ find_removed ids stands cs i 1 (last + 1) is.rising is.marked is.filled h q
      ∙ (λ j. cond (eqb q (same j)) None (sym (get-from_entries nat_cmp_total (entries ids stands cs) q) j))
      ∙ ap (λ b. cond b None (get (standing_of ids stands cs) q)) (sym (tied q id))
      ∙ sym (get-remove nat_cmp_total (standing_of ids stands cs) id q))

  -- an id that has no clause is taken out already
  pub standing_remove_missing : (id : ℕ) → ((k : ℕ) → k < length ids → get_or ids k 0 ≡ id → ⊥) → standing_of ids stands cs ≡ remove (standing_of ids stands cs) id
  standing_remove_missing id apart = same_map nat_cmp_total nat_cmp-IsAntisymmetric _ _ (λ q. none q ∙ sym (get-remove nat_cmp_total (standing_of ids stands cs) id q))
    where
      none : (q : ℕ) → get (standing_of ids stands cs) q ≡ cond (eq_by_cmp nat_cmp q id) None (get (standing_of ids stands cs) q)
      none q = go (eqb q id) refl ∙ ap (λ b. cond b None (get (standing_of ids stands cs) q)) (sym (tied q id))
        where
          go : (b : Bool) → eqb q id ≡ b → get (standing_of ids stands cs) q ≡ cond b None (get (standing_of ids stands cs) q)
          go true e = ap (get (standing_of ids stands cs)) (eqb-true q id e) ∙ get_missing id apart
          go false e = refl
