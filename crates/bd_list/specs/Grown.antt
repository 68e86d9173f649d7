-- Lists in which each item has a value that rests on the values before it: lets, and the nodes of a graph.
use Rattle.std.specs.Prelude.{List, [], ◌∷◌, ◌++◌}

-- the values done so far, and after them those of the items, each from the values before it
abbrev pub grown : {X Y : Type 0} → (List Y → X → Y) → List Y → List X → List Y
grown f done [] = done
grown f done (x ∷ xs) = grown f (done ++ f done x ∷ []) xs
