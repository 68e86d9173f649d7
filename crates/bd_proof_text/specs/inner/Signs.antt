-- The signs of the variables of literals, as a map keeps them.
use Rattle.std.specs.Prelude.{◌≡◌, ℕ, ◌==◌, Bool, false, not, List, Option, None, Some, if◌then◌else◌}
use Rattle.std.specs.Map.{lookup}
use Rattle.bd_cnf.specs.Literal.{Literal, literal, has_literal}

-- whether a variable has a sign, and it is this one
abbrev pub is_sign : Option Bool → Bool → Bool
is_sign None s = false
is_sign (Some t) s = if t then s else not s

-- a literal is there exactly where its variable has its sign
pub record HasSigns (entries : List (ℕ × Bool)) (ls : List Literal) : Type 0 where
  pub each : (x : ℕ) (s : Bool) → has_literal ls (literal x s) ≡ is_sign (lookup (λ y. x == y) entries) s
