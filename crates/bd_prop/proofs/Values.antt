-- Look-ups of atoms.
use Rattle.std.proofs.Common.{◌≡◌, Bool, cond, List, [], ◌∷◌, Some, refl}
use Rattle.std.specs.Map.{lookup}
use Rattle.bd_prop.specs.declared.atom.Atom.{Atom}
use Rattle.bd_prop.specs.declared.atom.Atom.TheVariants.{Edge, Truth}
use Rattle.bd_prop.specs.Values.{held, is_atom}
use Rattle.bd_prop.proofs.Same.{atom_eq}

pub atom_eq-is : (a b : Atom) → atom_eq a b ≡ is_atom a b
atom_eq-is (Edge a b) (Edge c d) = refl
atom_eq-is (Truth a) (Truth b) = refl
atom_eq-is (Edge a b) (Truth c) = refl
atom_eq-is (Truth a) (Edge b c) = refl

pub lookup-held : (es : List (Atom × Bool)) (a : Atom) → lookup (atom_eq a) es ≡ held es a
lookup-held [] a = refl
lookup-held (e ∷ es) a =
    let test : atom_eq a e.0 ≡ is_atom a e.0 = atom_eq-is a e.0 in
    let rest : lookup (atom_eq a) es ≡ held es a = lookup-held es a in
    λ i. cond (test i) (Some e.1) (rest i)
