-- States that can't be told apart: equal latches, and memories that read equal at every word
-- (Burch and Dill 1994).
use Rattle.std.specs.Prelude.{◌≡◌, List}
use Rattle.std.specs.List.{AllZip}
use Rattle.bd_model.specs.Table.{ReadSame}
use Rattle.bd_model.specs.declared.table.Value.{Value}
use Rattle.bd_model.specs.declared.table.Value.TheVariants as value

abbrev pub SameValue : Value → Value → Type 0
SameValue (value.Scalar x) (value.Scalar y) = x ≡ y
SameValue (value.Memory m) (value.Memory n) = ReadSame m n
SameValue (value.Scalar x) (value.Memory n) = ⊥
SameValue (value.Memory m) (value.Scalar y) = ⊥

abbrev pub Same : List Value → List Value → Type 0
Same a b = AllZip SameValue a b
