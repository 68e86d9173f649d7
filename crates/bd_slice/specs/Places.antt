-- Where two cases agree at a place: equal latches, words of memories, inputs or rows.
use Rattle.std.specs.Prelude.{◌≡◌, List, false, slice_index_or}
use Rattle.std.specs.List.{AllByRecursion}
use Rattle.bd_model.specs.Table.{at, read}
use Rattle.bd_model.specs.Value.{truth, memory_of, table_of}
use Rattle.bd_model.specs.declared.table.Scalar.TheVariants as scalar
use Rattle.bd_model.specs.declared.case.Case.{Case}
use Rattle.bd_slice.specs.declared.place.CasePlace.{CasePlace}
use Rattle.bd_slice.specs.declared.place.CasePlace.TheVariants as place

-- the other case has at the place what this one has there
abbrev pub AgreesAt : Case → Case → CasePlace → Type 0
AgreesAt c other (place.Latch i) =
    slice_index_or other.state i (truth false) ≡ slice_index_or c.state i (truth false)
AgreesAt c other (place.Cell i a) =
    read (memory_of (slice_index_or other.state i (truth false))) a
    ≡ read (memory_of (slice_index_or c.state i (truth false))) a
AgreesAt c other (place.Input i) =
    slice_index_or other.inputs i (scalar.Bool false)
    ≡ slice_index_or c.inputs i (scalar.Bool false)
AgreesAt c other (place.Row f args) =
    at (table_of other.interp f) args ≡ at (table_of c.interp f) args

-- the other case agrees with this one on all of these places
abbrev pub AgreesOn : Case → List CasePlace → Case → Type 0
AgreesOn c places other = AllByRecursion (AgreesAt c other) places
