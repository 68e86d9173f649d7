-- The fates by which all of a case stays.
use Rattle.std.specs.Prelude.{List, [], ◌∷◌, length, replicate}
use Rattle.bd_model.specs.declared.table.Table.{Table}
use Rattle.bd_model.specs.declared.table.Value.{Value}
use Rattle.bd_model.specs.declared.table.Value.TheVariants as value
use Rattle.bd_shrink.specs.declared.fate.Fate.{Fate}
use Rattle.bd_shrink.specs.declared.fate.Fate.TheVariants.{Stays}

abbrev pub stay_table : Table → List Fate
stay_table t = Stays ∷ replicate (length t.rows) Stays

abbrev pub stay_value : Value → List Fate
stay_value (value.Scalar x) = Stays ∷ []
stay_value (value.Memory m) = Stays ∷ replicate (length m.rows) Stays
