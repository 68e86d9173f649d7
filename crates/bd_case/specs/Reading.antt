-- The case or the trail that trees are, or its first fault: entries from left to right, and of an entry first its shape, then its name,
-- then its values. The text and its codes are this project's own.
use Rattle.std.specs.Prelude.{◌≡◌, ◌≤◌, ◌==◌, ℕ, suc, ◌+◌, Bool, true, false, ◌||◌, List, [], ◌∷◌, ◌++◌, map, Option, Some, None, is_some, option_map, Result, Ok, Err, codes, nat_eq, slice_index_or, slice_set, if◌then◌else◌}
use Rattle.std.specs.List.{list_any}
use Rattle.bd_text.specs.Nodes.{Node, atom, list, Nodes, no_nodes, node, node_count}
use Rattle.bd_text.specs.declared.code.Code.TheVariants.{WrongHead, Malformed, DeclaredTwice, UnknownName, WrongSort, WrongArity, MissingOrTwice, NotDistinct}
use Rattle.bd_syntax.specs.Words.{same_text}
use Rattle.bd_syntax.specs.Reading.{Fault, ◌>>=◌, refused, atom_form, name_form, number_form, first_form, others, each_form, before_last, last_node, headed_form, end_form, offset_of}
use Rattle.bd_model.specs.DesignView.{DesignView}
use Rattle.bd_model.specs.Lawful.{all_names}
use Rattle.bd_model.specs.Table.{at}
use Rattle.bd_model.specs.Value.{scalar_word, table_of}
use Rattle.bd_model.specs.declared.table.Scalar.{Scalar}
use Rattle.bd_model.specs.declared.table.Scalar.TheVariants as scalar
use Rattle.bd_model.specs.declared.table.Row.{Row}
use Rattle.bd_model.specs.declared.table.Table.{Table}
use Rattle.bd_model.specs.declared.design.Sort.{Sort}
use Rattle.bd_model.specs.declared.design.Sort.TheVariants as sort
use Rattle.bd_model.specs.declared.case.Case.{Case}
use Rattle.bd_model.specs.declared.case.Trail.{Trail}
use Rattle.bd_case.specs.Kinds.{head_text, head_of, head_takes, is_input, may_lack, subject_text, kinds}
use Rattle.bd_case.specs.Content.{constant_table, default_of, value_row, trail_from, case_of}
use Rattle.bd_case.specs.declared.kind.Subject.{Subject}
use Rattle.bd_case.specs.declared.kind.Subject.TheVariants.{Case as ACase, Trail as ATrail}
use Rattle.bd_case.specs.declared.kind.Version.TheVariants.{One, Two}
use Rattle.bd_case.specs.declared.kind.Layout.{Layout}
use Rattle.bd_case.specs.declared.kind.EntryHead.{EntryHead}
use Rattle.bd_case.specs.declared.kind.EntryHead.TheVariants as heads
use Rattle.bd_case.specs.declared.kind.EntryKind.{EntryKind}
use Rattle.bd_model.specs.Limits.{most_cycles}

-- ---- values and rows

-- true or false
unfoldable pub truth_form : Node → Result Scalar Fault
truth_form t = do
  truth ← atom_form t
  if same_text truth.text (codes "true") then Ok (scalar.Bool true)
      else (if same_text truth.text (codes "false") then Ok (scalar.Bool false)
      else refused truth.offset WrongSort)

-- a number of at most 64 bits
abbrev pub word_form : Node → Result ℕ Fault
word_form t = number_form 18446744073709551615 t

unfoldable pub scalar_form : Sort → Node → Result Scalar Fault
scalar_form sort.Bool t = truth_form t
scalar_form s t = do
  word ← word_form t
  Ok (scalar.Word word)

-- the last part of a list, which must be there
abbrev pub last_form : Sort → ℕ → Option Node → Result Scalar Fault
last_form s offset None = refused offset WrongArity
last_form s offset (Some t) = scalar_form s t

-- (ARG .. VALUE)
unfoldable pub row_parts : Sort → ℕ → Nodes → Result Row Fault
row_parts s offset parts = do
  args ← each_form word_form (before_last parts)
  value ← last_form s offset (last_node parts)
  Ok (record { args = args; value = value })

-- one part more than the arity
unfoldable pub counted_form : EntryKind → ℕ → Nodes → Result Row Fault
counted_form kind offset parts =
    if node_count parts == kind.arity + 1 then row_parts kind.sort offset parts
    else refused offset WrongArity

-- a row is a list
abbrev pub row_form : EntryKind → Node → Result Row Fault
row_form kind (atom offset text) = refused offset Malformed
row_form kind (list offset parts) = counted_form kind offset parts

-- a constant that is kept apart has the value of its table, and no rows
abbrev pub kept : Bool → Table → Table
kept true t = constant_table (at t [])
kept false t = t

-- DEFAULT ROW ..
unfoldable pub table_form : EntryKind → Node → Nodes → Result Table Fault
table_form kind t ts = do
  default ← scalar_form kind.sort t
  rows ← each_form (row_form kind) ts
  Ok (kept kind.apart (record { default = default; rows = rows }))

-- a value, as a row without arguments
abbrev pub value_form : Sort → Node → Result Row Fault
value_form s t = do
  x ← scalar_form s t
  Ok (value_row x)

-- VALUE ..
unfoldable pub values_form : Sort → Nodes → Result Table Fault
values_form s ts = do
  rows ← each_form (value_form s) ts
  Ok (record { default = default_of s; rows = rows })

-- DEFAULT ROW .. in the list at this offset
abbrev pub defaulted_form : EntryKind → ℕ → Nodes → Result Table Fault
defaulted_form kind offset no_nodes = refused offset Malformed
defaulted_form kind offset (node t ts) = table_form kind t ts

-- what an entry gives after its name: of an input the value in each cycle, of all else a default and rows
abbrev pub content_form : EntryKind → ℕ → Nodes → Result Table Fault
content_form kind offset ts =
    if is_input kind.head then values_form kind.sort ts else defaulted_form kind offset ts

-- ---- entries

-- the first place of a name
abbrev pub place_of : List ℕ → List (List ℕ) → Option ℕ
place_of name [] = None
place_of name (n ∷ ns) = if same_text n name then Some 0 else option_map suc (place_of name ns)

-- what stands past the last place
abbrev pub no_kind : EntryKind
no_kind = record { head = heads.Input; sort = sort.Bool; arity = 0; apart = false }

abbrev pub kind_at : List EntryKind → ℕ → EntryKind
kind_at ks i = slice_index_or ks i no_kind

abbrev pub is_head : EntryHead → EntryHead → Bool
is_head head other = same_text (head_text head) (head_text other)

-- an entry with this head gives what stands at the place of its name, if no entry before it does
abbrev pub place_form : List EntryKind → List (Option Table) → EntryHead → ℕ → Option ℕ → Result ℕ Fault
place_form ks given head offset None = refused offset UnknownName
place_form ks given head offset (Some i) =
    if is_head head (kind_at ks i).head
    then (if is_some (slice_index_or given i None) then refused offset DeclaredTwice else Ok i)
    else refused offset WrongSort

-- NAME CONTENT, beside what was given before
unfoldable pub parts_form : Layout → DesignView → List (Option Table) → ℕ → EntryHead → Nodes → Result (List (Option Table)) Fault
parts_form layout d given offset head no_nodes = refused offset Malformed
parts_form layout d given offset head (node t ts) = do
  name ← name_form t
  i ← place_form (kinds layout.version d) given head name.offset (place_of name.text (all_names d))
  table ← content_form (kind_at (kinds layout.version d) i) offset ts
  Ok (slice_set given i (Some table))

-- the head of an entry, with as many parts as it takes
abbrev pub head_form : ℕ → ℕ → ℕ → Option EntryHead → Result EntryHead Fault
head_form cycles offset parts None = refused offset Malformed
head_form cycles offset parts (Some head) =
    if head_takes cycles head parts then Ok head else refused offset Malformed

-- an entry is a list that begins with a head
unfoldable pub entry_form : Layout → DesignView → List (Option Table) → Node → Result (List (Option Table)) Fault
entry_form layout d given (atom offset text) = refused offset Malformed
entry_form layout d given (list offset parts) = do
  first ← first_form offset parts
  head ← head_form layout.cycles offset (node_count (others parts)) (head_of layout.version first.text)
  parts_form layout d given offset head (others parts)

abbrev pub entries_form : Layout → DesignView → List (Option Table) → Nodes → Result (List (Option Table)) Fault
entries_form layout d given no_nodes = Ok given
entries_form layout d given (node t ts) = do
  more ← entry_form layout d given t
  entries_form layout d more ts

-- ---- the whole text

-- what was given, or the default 0 or false without rows
abbrev pub given_or : ℕ → EntryKind → Option Table → Result Table Fault
given_or offset kind (Some t) = Ok t
given_or offset kind None =
    if may_lack kind.head then Ok (constant_table (default_of kind.sort))
    else refused offset MissingOrTwice

-- everything that the text gives
abbrev pub whole_form : ℕ → List EntryKind → List (Option Table) → Result (List Table) Fault
whole_form offset [] given = Ok []
whole_form offset (kind ∷ ks) [] = Ok []
whole_form offset (kind ∷ ks) (t ∷ given) = do
  table ← given_or offset kind t
  tables ← whole_form offset ks given
  Ok (table ∷ tables)

-- whether a value stands twice, where some stand before them
abbrev pub repeats : List ℕ → List ℕ → Bool
repeats before [] = false
repeats before (x ∷ xs) = list_any (nat_eq x) before || repeats (before ++ x ∷ []) xs

-- the values of constants
abbrev pub constants : List Table → List ℕ → List ℕ
constants interp group = map (λ f. scalar_word (table_of interp f).default) group

-- the constants of each group have different values
abbrev pub distinct_form : List (List ℕ) → ℕ → Trail → Result Trail Fault
distinct_form distinct offset t =
    if list_any (λ group. repeats [] (constants t.interp group)) distinct
    then refused offset NotDistinct else Ok t

-- a case has one cycle, and names its version
abbrev pub version_part : Node → Result Layout Fault
version_part (list offset parts) = refused offset WrongHead
version_part (atom offset text) =
    if same_text text (codes "1") then Ok (record { version = One; cycles = 1 })
    else (if same_text text (codes "2") then Ok (record { version = Two; cycles = 1 })
    else refused offset WrongHead)

-- a trail is in the second version, and has at most 16 cycles
abbrev pub cycles_part : ℕ → Result ℕ Fault → Result Layout Fault
cycles_part offset (Ok cycles) = Ok (record { version = Two; cycles = cycles })
cycles_part offset (Err fault) = refused offset WrongHead

abbrev pub layout_part : Subject → Node → Result Layout Fault
layout_part ACase t = version_part t
layout_part ATrail t = cycles_part (offset_of t) (number_form most_cycles t)

-- how many cycles there may be
abbrev pub HasCycles : Subject → ℕ → Type 0
HasCycles ACase cycles = cycles ≡ 1
HasCycles ATrail cycles = cycles ≤ most_cycles

-- the layout of a text, and the entries after it
abbrev pub layout_form : Subject → ℕ → Nodes → Result (Layout × Nodes) Fault
layout_form subject offset no_nodes = refused offset WrongHead
layout_form subject offset (node t ts) = do
  layout ← layout_part subject t
  Ok (layout, ts)

-- one tree (case VERSION ENTRY ..) or (trail CYCLES ENTRY ..): its offset, its layout and its entries
abbrev pub file_form : Subject → Nodes → Result (ℕ × (Layout × Nodes)) Fault
file_form subject no_nodes = refused 0 WrongHead
file_form subject (node t ts) = do
  inside ← headed_form (subject_text subject) t
  content ← layout_form subject inside.0 inside.1
  end ← end_form ts
  Ok (inside.0, content)

abbrev pub nothing_given : List EntryKind → List (Option Table)
nothing_given ks = map (λ _. None) ks

-- what entries give, in the list at this offset
unfoldable pub walk_form : Layout → DesignView → ℕ → Nodes → Result Trail Fault
walk_form layout d offset entries = do
  given ← entries_form layout d (nothing_given (kinds layout.version d)) entries
  tables ← whole_form offset (kinds layout.version d) given
  distinct_form d.distinct offset (trail_from d layout.cycles tables)

-- what trees are the text of, for a design; a case is a trail of one cycle
unfoldable pub text_form : Subject → DesignView → Nodes → Result Trail Fault
text_form subject d trees = do
  file ← file_form subject trees
  walk_form file.1.0 d file.0 file.1.1

-- the trail that trees are
abbrev pub trail_form : DesignView → Nodes → Result Trail Fault
trail_form d trees = text_form ATrail d trees

-- the case that trees are
abbrev pub case_form : DesignView → Nodes → Result Case Fault
case_form d trees = do
  trail ← text_form ACase d trees
  Ok (case_of trail)
