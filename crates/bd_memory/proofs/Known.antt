-- Look-ups of reads.
use Rattle.std.proofs.Common.{◌≡◌, ℕ, Bool, cond, List, [], ◌∷◌, Some, refl}
use Rattle.std.specs.Map.{lookup}
use Rattle.bd_memory.specs.declared.reads.ReadKey.{ReadKey}
use Rattle.bd_memory.specs.contracts.reads.ReadKeyPartialEq.TheImpl.{eq-value}
use Rattle.bd_memory.specs.inner.Reads.{is_key}

abbrev pub key_eq : ReadKey → ReadKey → Bool
key_eq = eq-value.it

pub key_eq-is : (k l : ReadKey) → key_eq k l ≡ is_key k l
key_eq-is k l = refl

pub lookup-key : (es : List (ReadKey × ℕ)) (k : ReadKey) → lookup (key_eq k) es ≡ lookup (is_key k) es
lookup-key [] k = refl
lookup-key (e ∷ es) k =
    let test : key_eq k e.0 ≡ is_key k e.0 = key_eq-is k e.0 in
    let rest : lookup (key_eq k) es ≡ lookup (is_key k) es = lookup-key es k in
    λ i. cond (test i) (Some e.1) (rest i)
