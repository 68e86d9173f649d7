-- A form to which rows and clauses are added: rows of new variables, and assignments that differ at those alone.
use Rattle.std.proofs.Common.{◌≡◌, ◌⊎◌, ℕ, ◌<◌, ◌≤◌, ◌+◌, Bool, not, ◌&&◌, ◌||◌, cond, List, [], ◌∷◌, ◌++◌, length, Contains, Some, slice_get, refl, ap, sym, ◌∙◌, inl, inr, arith}
use Rattle.std.proofs.lemmas.Bool.{cases_lt}
use Rattle.std.proofs.lemmas.List.{get_or_append_left, get_or_push, length_push}
use Rattle.std.proofs.lemmas.List.Elements.{All-push, All-weaker, All-head, All-tail, All-contains}
use Rattle.std.proofs.lemmas.Option.{slice_get-get_or, slice_get_within, get_or_from_slice_get}
use Rattle.bd_prop.specs.declared.atom.Atom.{Atom}
use Rattle.bd_cnf.specs.Literal.{Literal}
use Rattle.bd_cnf.specs.Clause.{IsWithin, clause_value, clauses_value}
use Rattle.bd_cnf.specs.Problem.{AreWithin}
use Rattle.bd_tseitin.specs.declared.row.AtomVar.{AtomVar}
use Rattle.bd_tseitin.specs.Rows.{AreApart, AreRows, HasAtom}

pushed_row : (rows : List AtomVar) (last : AtomVar) (i : ℕ) (r : AtomVar) → slice_get (rows ++ last ∷ []) i ≡ Some r → (slice_get rows i ≡ Some r) ⊎ ((length rows ≡ i) × (r ≡ last))
pushed_row rows last i r at =
    elim (cases_lt i (length rows)) [
      | inl before ↦ inl (slice_get-get_or rows i r before ∙ ap Some (sym (get_or_append_left rows (last ∷ []) r i before) ∙ get_or_from_slice_get _ i r r at))
      | inr after ↦
          let size : length (rows ++ last ∷ []) ≡ length rows + 1 = length_push rows last in
          let inside : i < length (rows ++ last ∷ []) = slice_get_within _ i r at in
          let end : length rows ≡ i = omega arith in
          inr (end, sym (get_or_from_slice_get _ i r r at) ∙ get_or_push rows last r i end)
    ]

row_in : (rows : List AtomVar) (i : ℕ) (r : AtomVar) → slice_get rows i ≡ Some r → Contains rows r
row_in rows i r at = (i, slice_get_within rows i r at, get_or_from_slice_get rows i r r at)

AreApart-push : {X : Type 0} (f : AtomVar → X) (rows : List AtomVar) (last : AtomVar) → ((r : AtomVar) → Contains rows r → f r ≡ f last → ⊥) → AreApart f rows → AreApart f (rows ++ last ∷ [])
AreApart-push f rows last new apart i j r s at_i at_j same =
    elim (pushed_row rows last i r at_i) [
      | inl old_i ↦
          elim (pushed_row rows last j s at_j) [
            | inl old_j ↦ apart i j r s old_i old_j same
            | inr (end, is) ↦ absurd (new r (row_in rows i r old_i) (same ∙ ap f is))
          ]
      | inr (end, is) ↦
          elim (pushed_row rows last j s at_j) [
            | inl old_j ↦ absurd (new s (row_in rows j s old_j) (sym same ∙ ap f is))
            | inr (end_j, is_j) ↦ sym end ∙ end_j
          ]
    ]

-- a row of a new atom and the next variable
pub AreRows-push : (vars : ℕ) (rows : List AtomVar) (a : Atom) → AreRows vars rows → (HasAtom rows a → ⊥) → AreRows (vars + 1) (rows ++ record { atom = a; var = vars + 1 } ∷ [])
AreRows-push vars rows a are new =
    let last : AtomVar = record { atom = a; var = vars + 1 } in
    record {
      from_one = All-push (λ (r : AtomVar). 0 < r.var) rows last are.from_one (omega arith);
      within = All-push (λ (r : AtomVar). r.var ≤ vars + 1) rows last (All-weaker (λ (r : AtomVar). r.var ≤ vars) (λ (r : AtomVar). r.var ≤ vars + 1) (λ r low. omega (arith, low)) rows are.within) (omega arith);
      atoms = AreApart-push (λ (r : AtomVar). r.atom) rows last (λ r has same. new (r, has, same)) are.atoms;
      variables = AreApart-push (λ (r : AtomVar). r.var) rows last (λ r has same.
          let low : r.var ≤ vars = All-contains (λ (x : AtomVar). x.var ≤ vars) rows r are.within has in absurd (omega arith)) are.variables;
    }

module _ (vars : ℕ) (a b : ℕ → Bool) (same : (x : ℕ) → x ≤ vars → a x ≡ b x) where
  clause_value-same : (c : List Literal) → IsWithin vars c → clause_value a c ≡ clause_value b c
  clause_value-same [] low = refl
  clause_value-same (l ∷ c) low =
      let first : a l.var ≡ b l.var = same l.var (All-head (λ (m : Literal). m.var ≤ vars) l c low) in
      let rest : clause_value a c ≡ clause_value b c = clause_value-same c (All-tail (λ (m : Literal). m.var ≤ vars) l c low) in
      λ i. cond l.positive (first i) (not (first i)) || rest i

  -- clauses have one value under assignments that agree at their variables
  pub clauses_value-same : (cs : List (List Literal)) → AreWithin vars cs → clauses_value a cs ≡ clauses_value b cs
  clauses_value-same [] low = refl
  clauses_value-same (c ∷ cs) low =
      let first : clause_value a c ≡ clause_value b c = clause_value-same c (All-head (IsWithin vars) c cs low) in
      let rest : clauses_value a cs ≡ clauses_value b cs = clauses_value-same cs (All-tail (IsWithin vars) c cs low) in
      λ i. first i && rest i
