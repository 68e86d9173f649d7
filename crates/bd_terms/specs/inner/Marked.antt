-- Marks at places.
use Rattle.std.specs.Prelude.{ℕ, Bool, true, List, [], ◌∷◌, slice_set}

-- the marks, and these places marked too
abbrev pub marked : List Bool → List ℕ → List Bool
marked marks [] = marks
marked marks (c ∷ cs) = marked (slice_set marks c true) cs
