-- Look-ups of what is wanted.
use Rattle.std.proofs.Common.{◌≡◌, Bool, cond, List, [], ◌∷◌, Some, refl}
use Rattle.std.specs.Map.{lookup}
use Rattle.bd_equality.specs.declared.settled.Done.{Done}
use Rattle.bd_equality.specs.declared.wanted.Wanted.{Wanted}
use Rattle.bd_equality.specs.declared.wanted.Wanted.TheVariants.{Truth, Equation}
use Rattle.bd_equality.specs.contracts.wanted.WantedPartialEq.TheImpl.{eq-value}
use Rattle.bd_equality.specs.inner.Sets.{is_wanted}

abbrev pub key_eq : Wanted → Wanted → Bool
key_eq = eq-value.it

pub key_eq-is : (k l : Wanted) → key_eq k l ≡ is_wanted k l
key_eq-is (Truth i) (Truth j) = refl
key_eq-is (Truth i) (Equation x y) = refl
key_eq-is (Equation a b) (Truth j) = refl
key_eq-is (Equation a b) (Equation x y) = refl

pub lookup-key : (es : List (Wanted × Done)) (k : Wanted) → lookup (key_eq k) es ≡ lookup (is_wanted k) es
lookup-key [] k = refl
lookup-key (e ∷ es) k =
    let test : key_eq k e.0 ≡ is_wanted k e.0 = key_eq-is k e.0 in
    let rest : lookup (key_eq k) es ≡ lookup (is_wanted k) es = lookup-key es k in
    λ i. cond (test i) (Some e.1) (rest i)
