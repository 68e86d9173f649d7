-- Values of atoms that are read from an assignment, row by row.
use Rattle.std.proofs.Common.{◌≡◌, ℕ, ◌<◌, ◌+◌, Bool, true, false, cond, List, [], length, get_or, All, Contains, Some, None, slice_get, unwrap_or, ap, sym, ◌∙◌, subst, inl, inr, arith}
use Rattle.std.proofs.lemmas.Bool.{false≢true, cases_Bool, cases_eq}
use Rattle.std.proofs.lemmas.List.Elements.{Contains-get_or}
use Rattle.std.proofs.lemmas.Option.{slice_get-get_or, get_or_from_slice_get}
use Rattle.bd_prop.specs.declared.atom.Atom.{Atom}
use Rattle.bd_prop.specs.Values.{held, is_atom, truth_of}
use Rattle.bd_prop.proofs.Same.{atom_same, atom_eq-refl}
use Rattle.bd_prop.proofs.Values.{atom_eq-is}
use Rattle.bd_tseitin.specs.declared.row.AtomVar.{AtomVar}
use Rattle.bd_tseitin.specs.Rows.{AreApart, HasAtom, Agree}

is_atom-same : (a b : Atom) → is_atom a b ≡ true → a ≡ b
is_atom-same a b h = atom_same a b (atom_eq-is a b ∙ h)

pub is_atom-refl : (a : Atom) → is_atom a a ≡ true
is_atom-refl a = sym (atom_eq-is a a) ∙ atom_eq-refl a

-- the values when the rows below k are read
pub record AreInputs (assignment : ℕ → Bool) (rows : List AtomVar) (k : ℕ) (values : List (Atom × Bool)) : Type 0 where
  pub done : (j : ℕ) (d : AtomVar) → j < k → j < length rows → held values (get_or rows j d).atom ≡ Some (assignment (get_or rows j d).var)
  pub others : (a : Atom) → (HasAtom rows a → ⊥) → held values a ≡ None

module _ (assignment : ℕ → Bool) (rows : List AtomVar) where
  pub AreInputs-start : (values : List (Atom × Bool)) → values ≡ [] → AreInputs assignment rows 0 values
  AreInputs-start values is = record {
    done = λ j d low inside. absurd (omega arith);
    others = λ a absent. ap (λ vs. held vs a) is;
  }

  pub AreInputs-more : AreApart (λ (r : AtomVar). r.atom) rows → (k : ℕ) (row : AtomVar) (old new : List (Atom × Bool)) → k < length rows → slice_get rows k ≡ Some row
      → ((q : Atom) → held new q ≡ cond (is_atom row.atom q) (Some (assignment row.var)) (held old q)) → AreInputs assignment rows k old → AreInputs assignment rows (k + 1) new
  AreInputs-more apart k row old new inside at set is = record {
    done = λ j d low short.
        let here : AtomVar = get_or rows j d in
        let at_j : slice_get rows j ≡ Some here = slice_get-get_or rows j d short in
        elim (cases_Bool (is_atom row.atom here.atom)) [
          | inl e ↦
              let same : j ≡ k = apart j k here row at_j at (sym (is_atom-same row.atom here.atom e)) in
              let row_is : row ≡ here = sym (get_or_from_slice_get rows k row d at) ∙ ap (λ i. get_or rows i d) (sym same) in
              set here.atom ∙ ap (λ b. cond b (Some (assignment row.var)) (held old here.atom)) e ∙ ap (λ (r : AtomVar). Some (assignment r.var)) row_is
          | inr e ↦
              elim (cases_eq j k) [
                | inl same ↦
                    let row_is : row ≡ here = sym (get_or_from_slice_get rows k row d at) ∙ ap (λ i. get_or rows i d) (sym same) in
                    absurd (false≢true (sym e ∙ ap (λ (r : AtomVar). is_atom row.atom r.atom) (sym row_is) ∙ is_atom-refl row.atom))
                | inr other ↦ set here.atom ∙ ap (λ b. cond b (Some (assignment row.var)) (held old here.atom)) e ∙ is.done j d (omega (arith, other)) short
              ]
        ];
    others = λ a absent.
        elim (cases_Bool (is_atom row.atom a)) [
          | inl e ↦ absurd (absent (row, subst (Contains rows) (get_or_from_slice_get rows k row row at) (Contains-get_or rows k row inside), is_atom-same row.atom a e))
          | inr e ↦ set a ∙ ap (λ b. cond b (Some (assignment row.var)) (held old a)) e ∙ is.others a absent
        ];
  }

  pub rows_held : (values : List (Atom × Bool)) → AreInputs assignment rows (length rows) values → All (λ (r : AtomVar). held values r.atom ≡ Some (assignment r.var)) rows
  rows_held values is k d h = is.done k d h h

  pub rows_agree : (values : List (Atom × Bool)) → AreInputs assignment rows (length rows) values → Agree assignment (truth_of values) rows
  rows_agree values is k d h = ap (λ o. unwrap_or o false) (is.done k d h h)
