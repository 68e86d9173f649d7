-- The stack of a walk, its top last.
use Rattle.std.specs.Prelude.{ℕ, List, [], ◌∷◌, ◌++◌}
use Rattle.bd_walk.specs.declared.depth_first.Visit.{Visit}
use Rattle.bd_walk.specs.declared.depth_first.Visit.TheVariants.{Enter}

-- visits to these, to the first on top
abbrev pub entries : List ℕ → List Visit
entries [] = []
entries (id ∷ ids) = entries ids ++ Enter id ∷ []
