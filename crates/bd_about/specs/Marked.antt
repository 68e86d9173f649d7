-- Marks on what is named.
use Rattle.std.specs.Prelude.{◌≡◌, ◌||◌, Bool, false, slice_index_or}
use Rattle.bd_about.specs.declared.named.Named.{Named}
use Rattle.bd_about.specs.declared.named.Named.TheVariants as named
use Rattle.bd_about.specs.declared.marks.NameMarks.{NameMarks}

-- whether a thing is marked
abbrev pub is_marked : NameMarks → Named → Bool
is_marked m (named.Entry i) = slice_index_or m.entries.items i false
is_marked m (named.Input i) = slice_index_or m.inputs.items i false
is_marked m (named.Local i) = slice_index_or m.locals.items i false
is_marked m (named.Symbol i) = slice_index_or m.symbols.items i false

-- the marks after such things are marked too
pub record Adds (old new : NameMarks) (such : Named → Bool) : Type 0 where
  pub each : (x : Named) → is_marked new x ≡ (is_marked old x || such x)
