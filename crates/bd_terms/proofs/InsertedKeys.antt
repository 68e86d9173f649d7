-- Keys of a set after one is inserted.
use Rattle.std.proofs.Common.{◌≡◌, ◌⊎◌, ◌↔◌, inl, inr, Bool, true, false, List, [], ◌∷◌, ◌++◌, Contains, if◌then◌else◌, sym, ap, ◌∙◌, subst}
use Rattle.std.specs.List.{list_any}
use Rattle.std.proofs.lemmas.List.Elements.{Contains-append_left, Contains-push_cases}
use Rattle.indexmap.specs.IndexSet.{insert_key}
use Rattle.indexmap.proofs.CallerLemmas.{Contains-insert_key}

module _ {K : Type 0} (eq : K → K → Bool) (same : (x y : K) → eq x y ≡ true → x ≡ y) (old new : List K) (k : K) (is : new ≡ insert_key eq old k) where
  came_by : (b : Bool) → list_any (eq k) old ≡ b → (x : K) → Contains new x → Contains old x ⊎ (k ≡ x)
  came_by true e x h = inl (subst (λ l. Contains l x) (is ∙ ap (λ b. if b then old else old ++ k ∷ []) e) h)
  came_by false e x h = Contains-push_cases old k x (subst (λ l. Contains l x) (is ∙ ap (λ b. if b then old else old ++ k ∷ []) e) h)

  stays_by : (b : Bool) → list_any (eq k) old ≡ b → (x : K) → Contains old x → Contains new x
  stays_by true e x h = subst (λ l. Contains l x) (sym (is ∙ ap (λ b. if b then old else old ++ k ∷ []) e)) h
  stays_by false e x h = subst (λ l. Contains l x) (sym (is ∙ ap (λ b. if b then old else old ++ k ∷ []) e)) (Contains-append_left old (k ∷ []) x h)

  -- the set has what it had, and the key
  pub inserted : (x : K) → Contains new x ↔ (Contains old x ⊎ (k ≡ x))
  inserted x = (
    came_by (list_any (eq k) old) refl_any x,
    λ h. elim h [
      | inl q ↦ stays_by (list_any (eq k) old) refl_any x q
      | inr q ↦ subst (Contains new) q (subst (λ l. Contains l k) (sym is) (Contains-insert_key eq same old k))
    ],
  )
    where
      refl_any : list_any (eq k) old ≡ list_any (eq k) old
      refl_any = λ i. list_any (eq k) old
