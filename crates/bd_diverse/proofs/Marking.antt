-- Variables of rows, a row and a symbol at a time.
use Rattle.std.proofs.Common.{◌≡◌, ◌⊎◌, ◌↔◌, inl, inr, ℕ, ◌+◌, ◌<◌, true, List, [], ◌∷◌, ◌++◌, length, take, get_or, Contains, refl, sym, subst, arith}
use Rattle.std.proofs.lemmas.List.{take_more}
use Rattle.std.proofs.lemmas.List.Elements.{Contains-append_left, Contains-push, Contains-push_cases}
use Rattle.bd_terms.specs.declared.node.Sym.{Sym}
use Rattle.bd_function.specs.declared.flat.FlatSym.{FlatSym}
use Rattle.bd_function.specs.Values.{is_marked}
use Rattle.bd_diverse.specs.Marked.{HasMarkedRow, HasVariable}

-- the set has these variables beside the old ones
abbrev pub Marks : List ℕ → List ℕ → (ℕ → Type 0) → Type 0
Marks old new P = (x : ℕ) → (is_marked new x ≡ true) ↔ ((is_marked old x ≡ true) ⊎ P x)

-- the set has the variables of the rows of positive symbols so far
abbrev pub MarksSymbols : List Sym → List FlatSym → List ℕ → Type 0
MarksSymbols positive syms marked = (x : ℕ) → (is_marked marked x ≡ true) ↔ HasMarkedRow positive syms x

module _ (positive : List Sym) (now : List ℕ) (syms : List FlatSym) (i : ℕ) (d : FlatSym) (inside : i < length syms) (h : MarksSymbols positive (take i syms) now) where
  more : take (i + 1) syms ≡ take i syms ++ get_or syms i d ∷ []
  more = take_more syms i d inside

  earlier : (x : ℕ) → HasMarkedRow positive (take i syms) x → HasMarkedRow positive (take (i + 1) syms) x
  earlier x v = record { holder = v.holder; listed = subst (λ l. Contains l v.holder) (sym more) (Contains-append_left (take i syms) (get_or syms i d ∷ []) v.holder v.listed); among = v.among; row = v.row }

  -- a symbol that isn't positive
  pub MarksSymbols-passed : (Contains positive (get_or syms i d).sym → ⊥) → MarksSymbols positive (take (i + 1) syms) now
  MarksSymbols-passed none x = (
    λ k. earlier x ((h x).0 k),
    λ v. elim (Contains-push_cases (take i syms) (get_or syms i d) v.holder (subst (λ l. Contains l v.holder) more v.listed)) [
      | inl q ↦ (h x).1 (record { holder = v.holder; listed = q; among = v.among; row = v.row })
      | inr e ↦ absurd (none (subst (λ (y : FlatSym). Contains positive y.sym) (sym e) v.among))
    ],
  )

  -- one that is
  pub MarksSymbols-more : (new : List ℕ) → Contains positive (get_or syms i d).sym → Marks now new (HasVariable (get_or syms i d).rows) → MarksSymbols positive (take (i + 1) syms) new
  MarksSymbols-more new among adds x = (
    λ k. elim ((adds x).0 k) [
      | inl q ↦ earlier x ((h x).0 q)
      | inr v ↦ record { holder = get_or syms i d; listed = subst (λ l. Contains l (get_or syms i d)) (sym more) (Contains-push (take i syms) (get_or syms i d)); among = among; row = v }
    ],
    λ v. (adds x).1 (elim (Contains-push_cases (take i syms) (get_or syms i d) v.holder (subst (λ l. Contains l v.holder) more v.listed)) [
      | inl q ↦ inl ((h x).1 (record { holder = v.holder; listed = q; among = v.among; row = v.row }))
      | inr e ↦ inr (subst (λ (y : FlatSym). HasVariable y.rows x) (sym e) v.row)
    ]),
  )
