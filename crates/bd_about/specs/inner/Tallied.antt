-- Things that are counted, each once for a function that is named in it.
use Rattle.std.specs.Prelude.{◌==◌, ◌≤◌, ◌+◌, ℕ, suc, Bool, true, false, List, [], ◌∷◌, if◌then◌else◌}
use Rattle.bd_about.specs.declared.tallying.Tally.{Tally}

-- nothing counted
abbrev pub no_tally : Tally
no_tally = record { count = 0; last = 0 }

-- no more things are counted than the number of the last one, and none past this one
pub record IsUpTo (thing : ℕ) (t : Tally) : Type 0 where
  pub count : t.count ≤ t.last
  pub last : t.last ≤ thing

-- the tally after a thing with a number, in which the function is named or not
abbrev pub named : Bool → ℕ → Tally → Tally
named false thing t = t
named true thing t = if t.last == thing then t else record { count = t.count + 1; last = thing }

-- after things that are numbered from one on
abbrev pub tallied : {X : Type 0} → (X → Bool) → ℕ → Tally → List X → Tally
tallied names thing t [] = t
tallied names thing t (x ∷ xs) = tallied names (suc thing) (named (names x) thing t) xs
