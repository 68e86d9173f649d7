-- A finite map that is made of the entries of another map, whose look-ups test keys in a way of their own.
use Rattle.std.proofs.Common.{◌≡◌, ℕ, Bool, List, [], ◌∷◌, Some, cond, refl, sym, ap, ◌∙◌}
use Rattle.std.specs.Ordering.{nat_cmp, eq_by_cmp}
use Rattle.std.specs.Cmp.{nat_cmp_total, eq_by_cmp_equiv}
use Rattle.std.specs.Map.{lookup}
use Rattle.std.specs.FinMap.{get, insert, find, from_entries, get-from_entries, get-insert, same_map, nat_cmp-IsAntisymmetric}

module _ (same : ℕ → ℕ → Bool) (says : (q k : ℕ) → eq_by_cmp nat_cmp q k ≡ same q k) {X : Type 0} where
  find-lookup : (es : List (ℕ × X)) (q : ℕ) → find nat_cmp q es ≡ lookup (same q) es
  find-lookup [] q = refl
  find-lookup (e ∷ es) q = ap (λ b. cond b (Some e.1) (find nat_cmp q es)) (says q e.0) ∙ ap (cond (same q e.0) (Some e.1)) (find-lookup es q)

  -- what the map has at a key is what a look-up in the entries finds
  pub get-lookup : (es : List (ℕ × X)) (q : ℕ) → get (from_entries {R = nat_cmp} es) q ≡ lookup (same q) es
  get-lookup es q = get-from_entries nat_cmp_total es q ∙ find-lookup es q

  -- entries that differ at one key make maps that differ there
  pub from_entries_inserted : (es fs : List (ℕ × X)) (k : ℕ) (x : X) → ((q : ℕ) → lookup (same q) fs ≡ cond (same k q) (Some x) (lookup (same q) es)) → from_entries {R = nat_cmp} fs ≡ insert (from_entries es) k x
  from_entries_inserted es fs k x h = same_map nat_cmp_total nat_cmp-IsAntisymmetric _ _ (λ q.
      get-lookup fs q ∙ h q ∙ ap (λ b. cond b (Some x) (lookup (same q) es)) (sym (says k q) ∙ (eq_by_cmp_equiv nat_cmp_total).symm k q)
      ∙ sym (get-insert nat_cmp_total (from_entries es) k x q ∙ ap (cond (eq_by_cmp nat_cmp q k) (Some x)) (get-lookup es q)))
