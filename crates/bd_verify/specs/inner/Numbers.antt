-- Rows of atoms that grow, each with a variable of its own.
use Rattle.std.specs.Prelude.{◌≡◌, ◌<◌, ◌+◌, ◌^◌, ℕ, List, Contains, None, Some, length}
use Rattle.std.specs.Map.{lookup}
use Rattle.bd_prop.specs.declared.atom.Atom.{Atom}
use Rattle.bd_prop.specs.Values.{is_atom}
use Rattle.bd_tseitin.specs.declared.row.AtomVar.{AtomVar}
use Rattle.bd_tseitin.specs.Rows.{AreRows, HasAtom}
use Rattle.bd_verify.specs.declared.numbers.Numbers.{Numbers}

-- the map holds the variable of each row's atom, and no other
pub record Finds (entries : List (Atom × ℕ)) (rows : List AtomVar) : Type 0 where
  pub found : (q : Atom) (x : ℕ) → lookup (is_atom q) entries ≡ Some x → Contains rows (record { atom = q; var = x })
  pub missing : (q : Atom) → lookup (is_atom q) entries ≡ None → ¬ HasAtom rows q

-- a formula has fewer variables than this before edges get rows, as each is that of a node in memory
abbrev pub most_variables : ℕ
most_variables = 2 ^ 60

-- rows over the variables, which the map finds. A variable that comes has a row, so there are few.
pub record IsNumbered (n : Numbers) : Type 0 where
  pub rows : AreRows n.vars n.atoms
  pub finds : Finds n.found.entries n.atoms
  pub few : n.vars < most_variables + length n.atoms
