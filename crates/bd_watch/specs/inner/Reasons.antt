-- How the id of a literal's reason is kept as a number.
use Rattle.std.specs.Prelude.{◌≡◌, ℕ, zero, suc, Option, None, Some, refl}

-- no clause has the id 0, which stands for none
abbrev pub reason_of : ℕ → Option ℕ
reason_of zero = None
reason_of (suc n) = Some (suc n)

abbrev pub id_of : Option ℕ → ℕ
id_of None = 0
id_of (Some id) = id

pub id_of_reason : (n : ℕ) → id_of (reason_of n) ≡ n
id_of_reason zero = refl
id_of_reason (suc n) = refl
