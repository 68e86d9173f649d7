-- The test of a name. This project's own.
use Rattle.std.specs.Prelude.{ℕ, Bool, not, ◌&&◌, List, length, nat_le, nat_eq}
use Rattle.std.specs.List.{list_any}
use lib.Pointwise.{pointwise}
use Rattle.bd_model.specs.Name.{spells_name, keywords}

abbrev pub is_name : List ℕ → Bool
is_name name =
    (spells_name name && nat_le (length name) 64) && not (list_any (pointwise nat_eq name) keywords)
