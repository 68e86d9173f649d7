-- The map of atoms to the variables of their rows.
use Rattle.std.proofs.Common.{◌≡◌, ℕ, Bool, true, false, cond, List, [], ◌∷◌, ◌++◌, Contains, None, Some, refl, ap, sym, ◌∙◌, subst, inl, inr}
use Rattle.std.specs.Prelude.{if◌then◌else◌}
use Rattle.std.specs.Map.{lookup}
use Rattle.std.proofs.lemmas.Bool.{false≢true}
use Rattle.std.proofs.lemmas.List.Elements.{Contains-append_left, Contains-push, Contains-push_cases}
use Rattle.std.proofs.lemmas.Option.{none-some, same_Some}
use Rattle.bd_prop.specs.declared.atom.Atom.{Atom}
use Rattle.bd_prop.specs.Values.{is_atom}
use Rattle.bd_prop.proofs.Same.{atom_eq, atom_same}
use Rattle.bd_prop.proofs.Values.{atom_eq-is}
use Rattle.bd_tseitin.specs.declared.row.AtomVar.{AtomVar}
use Rattle.bd_tseitin.specs.Rows.{HasAtom}
use Rattle.bd_verify.specs.inner.Numbers.{Finds}
use Rattle.bd_tseitin.proofs.Decoded.{is_atom-refl}

pub lookup-atom : {X : Type 0} → (es : List (Atom × X)) (q : Atom) → lookup (atom_eq q) es ≡ lookup (is_atom q) es
lookup-atom [] q = refl
lookup-atom (e ∷ es) q =
    let test : atom_eq q e.0 ≡ is_atom q e.0 = atom_eq-is q e.0 in
    let rest : lookup (atom_eq q) es ≡ lookup (is_atom q) es = lookup-atom es q in
    λ i. cond (test i) (Some e.1) (rest i)

same_atom : (a b : Atom) → is_atom a b ≡ true → a ≡ b
same_atom a b e = atom_same a b (atom_eq-is a b ∙ e)

abbrev row : Atom → ℕ → AtomVar
row atom var = record { atom = atom; var = var }

-- one row more
pub Finds-more : (es es' : List (Atom × ℕ)) (rows : List AtomVar) (atom : Atom) (var : ℕ) → Finds es rows
    → ((q : Atom) → lookup (is_atom q) es' ≡ (if is_atom atom q then Some var else lookup (is_atom q) es)) → Finds es' (rows ++ row atom var ∷ [])
Finds-more es es' rows atom var f step = record { found = found; missing = missing } where
  found_by : (q : Atom) (x : ℕ) (t : Bool) → is_atom atom q ≡ t → (if t then Some var else lookup (is_atom q) es) ≡ Some x → Contains (rows ++ row atom var ∷ []) (row q x)
  found_by q x true same e =
      let a : atom ≡ q = same_atom atom q same in
      let b : var ≡ x = same_Some var x e in
      subst (λ r. Contains (rows ++ row atom var ∷ []) r) (λ i. row (a i) (b i)) (Contains-push rows (row atom var))
  found_by q x false same e = Contains-append_left rows (row atom var ∷ []) (row q x) (f.found q x e)

  found : (q : Atom) (x : ℕ) → lookup (is_atom q) es' ≡ Some x → Contains (rows ++ row atom var ∷ []) (row q x)
  found q x e = found_by q x (is_atom atom q) refl (sym (step q) ∙ e)

  missing_by : (q : Atom) (t : Bool) → is_atom atom q ≡ t → (if t then Some var else lookup (is_atom q) es) ≡ None → HasAtom (rows ++ row atom var ∷ []) q → ⊥
  missing_by q true same e h = none-some var (sym e)
  missing_by q false same e h = elim (Contains-push_cases rows (row atom var) h.0 h.1) [
    | inl old ↦ f.missing q e (h.0, old, h.2)
    | inr last ↦
        let a : atom ≡ q = ap (λ (r : AtomVar). r.atom) last ∙ h.2 in
        false≢true (sym same ∙ subst (λ b. is_atom atom b ≡ true) a (is_atom-refl atom))
  ]

  missing : (q : Atom) → lookup (is_atom q) es' ≡ None → HasAtom (rows ++ row atom var ∷ []) q → ⊥
  missing q e = missing_by q (is_atom atom q) refl (sym (step q) ∙ e)
