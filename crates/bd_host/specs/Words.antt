-- What a system tells of the words of a command line. Source: this project's own interface.
use Rattle.std.specs.Prelude.{◌≡◌, ℕ, List, length, map, Option, Some, IfSome, String, string_bytes}
use Rattle.std.specs.declared.alloc.Global.{Global}
use Rattle.std.specs.declared.vec.IntoIter.{IntoIter}
use Rattle.std.specs.Vec.Iter.{into_iter_items, into_iter_len}

-- the words as bytes, or nothing where one of them isn't text; and nothing at all where it isn't told
abbrev pub Told : Type 0
Told = Option (Option (List (List ℕ)))

-- an iterator gives just these words, in this order
abbrev pub Gives : Told → IntoIter (String Global) Global → Type 0
Gives told args = IfSome told (λ words.
    (into_iter_len args ≡ length (into_iter_items args))
    × (words ≡ Some (map string_bytes (into_iter_items args))))
