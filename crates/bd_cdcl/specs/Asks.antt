-- How often a solver was asked, where it tells.
use Rattle.std.specs.Prelude.{◌≡◌, ℕ, ◌+◌, ◌≤◌, Option, None, Some}

-- so many formulas were asked about, where the solver tells their number; it may stop telling, and never tells again
abbrev pub Asks : Option ℕ → Option ℕ → ℕ → Type 0
Asks None None questions = Unit {0}
Asks None (Some after) questions = ⊥
Asks (Some before) None questions = Unit {0}
Asks (Some before) (Some after) questions = after ≡ before + questions

-- or at most so many
pub record AsksAtMost (before after : Option ℕ) (most : ℕ) : Type 0 where
  pub questions : ℕ
  pub within : questions ≤ most
  pub asks : Asks before after questions
