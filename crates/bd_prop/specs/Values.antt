-- Finite maps from atoms to truth values.
use Rattle.std.specs.Prelude.{Bool, false, ◌==◌, ◌&&◌, List, Option, unwrap_or}
use Rattle.std.specs.Map.{lookup}
use Rattle.bd_prop.specs.declared.atom.Atom.{Atom}
use Rattle.bd_prop.specs.declared.atom.Atom.TheVariants.{Edge, Truth}

-- whether two atoms are the same
abbrev pub is_atom : Atom → Atom → Bool
is_atom (Edge a b) (Edge c d) = (a == c) && (b == d)
is_atom (Truth a) (Truth b) = a == b
is_atom _ _ = false

-- the value that the map holds at an atom
abbrev pub held : List (Atom × Bool) → Atom → Option Bool
held values a = lookup (is_atom a) values

-- the value of an atom: false where the map holds none
abbrev pub truth_of : List (Atom × Bool) → Atom → Bool
truth_of values a = unwrap_or (held values a) false
