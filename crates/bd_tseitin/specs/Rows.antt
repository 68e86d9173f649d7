-- Which variable stands for which atom.
use Rattle.std.specs.Prelude.{◌≡◌, ℕ, ◌<◌, ◌≤◌, Bool, List, Some, slice_get, All, Contains}
use Rattle.bd_prop.specs.declared.atom.Atom.{Atom}
use Rattle.bd_tseitin.specs.declared.row.AtomVar.{AtomVar}

-- no two rows are alike in what f gives
abbrev pub AreApart : {X : Type 0} → (AtomVar → X) → List AtomVar → Type 0
AreApart f rows = (i j : ℕ) (r s : AtomVar) → slice_get rows i ≡ Some r → slice_get rows j ≡ Some s → f r ≡ f s → i ≡ j

-- rows over variables from 1 to vars, in which no atom and no variable stands twice
pub record AreRows (vars : ℕ) (rows : List AtomVar) : Type 0 where
  pub from_one : All (λ r. 0 < r.var) rows
  pub within : All (λ r. r.var ≤ vars) rows
  pub atoms : AreApart (λ r. r.atom) rows
  pub variables : AreApart (λ r. r.var) rows

-- each row's atom has the value of its variable
abbrev pub Agree : (ℕ → Bool) → (Atom → Bool) → List AtomVar → Type 0
Agree assignment values rows = All (λ r. values r.atom ≡ assignment r.var) rows

-- the atom has a row
abbrev pub HasAtom : List AtomVar → Atom → Type 0
HasAtom rows atom = (row : AtomVar) × Contains rows row × (row.atom ≡ atom)
