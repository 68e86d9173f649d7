-- What the maps of variables hold: the symbol of which one is an application's, and the atom for which one stands.
use Rattle.std.specs.Prelude.{◌==◌, ℕ, Bool, false, List, [], ◌∷◌, Option, None, Some, nat_eq, if◌then◌else◌}
use Rattle.std.specs.List.{list_any}
use Rattle.std.specs.Map.{lookup}
use Rattle.bd_terms.specs.declared.node.Sym.{Sym}
use Rattle.bd_function.specs.declared.flat.FlatSym.{FlatSym}
use Rattle.bd_function.specs.Tables.{is_symbol}
use Rattle.bd_cnf.specs.Literal.{Literal}
use Rattle.bd_prop.specs.declared.atom.Atom.{Atom}
use Rattle.bd_tseitin.specs.declared.row.AtomVar.{AtomVar}
use Rattle.bd_about.specs.Equations.{has_row, is_atom_of}

-- what is held at a variable
abbrev pub held : {X : Type 0} → List (ℕ × X) → ℕ → Option X
held entries x = lookup (nat_eq x) entries

-- whether something was found that passes
abbrev pub is_found : {X : Type 0} → (X → Bool) → Option X → Bool
is_found passes None = false
is_found passes (Some x) = passes x

-- whether the variable's symbol is this one
abbrev pub is_owned : List (ℕ × Sym) → Sym → ℕ → Bool
is_owned owners symbol x = is_found (λ t. is_symbol t symbol) (held owners x)

-- whether the variable's atom is an equation of the symbol
abbrev pub is_held_for : List (ℕ × Sym) → List (ℕ × Atom) → Sym → ℕ → Bool
is_held_for owners atoms symbol var = is_found (is_atom_of (is_owned owners) symbol) (held atoms var)

-- whether such an atom's variable stands in the clause
abbrev pub is_noted : List (ℕ × Sym) → List (ℕ × Atom) → Sym → List Literal → Bool
is_noted owners atoms symbol clause =
    list_any (λ (l : Literal). is_held_for owners atoms symbol l.var) clause

-- the value of the last row that passes a test, or an old one
abbrev pub last_by : {X Y : Type 0} → (X → Bool) → (X → Y) → Option Y → List X → Option Y
last_by test value old [] = old
last_by test value old (x ∷ xs) = last_by test value (if test x then Some (value x) else old) xs

-- the symbol that a variable has after those of some symbols' rows
abbrev pub last_symbol : ℕ → Option Sym → List FlatSym → Option Sym
last_symbol x old syms = last_by (λ (h : FlatSym). has_row h.rows x) (λ (h : FlatSym). h.sym) old syms

-- and the atom after those of some rows
abbrev pub last_atom : ℕ → Option Atom → List AtomVar → Option Atom
last_atom x old rows = last_by (λ (r : AtomVar). r.var == x) (λ (r : AtomVar). r.atom) old rows
