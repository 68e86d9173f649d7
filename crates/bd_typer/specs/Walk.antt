-- The expressions of a file, item by item. The language is this project's own.
use Rattle.std.specs.Prelude.{ℕ, ◌==◌, ◌&&◌, not, Bool, true, false, List, [], ◌∷◌, ◌++◌, length, set, Option, Some, None, Result, Ok, if◌then◌else◌}
use Rattle.bd_text.specs.declared.code.Code.TheVariants.{UnknownName, DeclaredTwice, NotConstant}
use Rattle.bd_model.specs.declared.design.Sort.{Sort}
use Rattle.bd_model.specs.declared.design.Sort.TheVariants as sorts
use Rattle.bd_model.specs.ExprView.{ExprView}
use Rattle.bd_model.specs.DesignView.{LocalView, PortView, ExactView}
use Rattle.bd_model.specs.Lawful.{uses_input}
use Rattle.bd_syntax.specs.Forms.{Expression, ItemView, input_item, let_item, next_item, exact_item, distinct_item}
use Rattle.bd_syntax.specs.Reading.{Fault, refused}
use Rattle.bd_syntax.specs.declared.form.Spot.{Spot}
use Rattle.bd_typer.specs.declared.names.Meaning.{Meaning}
use Rattle.bd_typer.specs.declared.names.Meaning.TheVariants.{Entry, Symbol, Local}
use Rattle.bd_typer.specs.Faults.{◌>>=◌}
use Rattle.bd_typer.specs.NameMap.{NameMap, declare}
use Rattle.bd_typer.specs.Repeats.{NameSet, no_texts, with_text}
use Rattle.bd_typer.specs.Typing.{typed}

-- what the items gone through give: their inputs, lets, next values by entry, exact and distinct items; of
-- each let whether it uses an input; and what names mean after them
pub record Typed : Type 0 where
  pub names : NameMap
  pub ports : List PortView
  pub locals : List LocalView
  pub flags : List Bool
  pub nexts : List ExprView
  pub exact : List ExactView
  pub distinct : List (List ℕ)

-- (input NAME SORT EXPR): the expression is that of flush cycles, and uses no input
unfoldable pub typed_input : Typed → Spot → Sort → Expression → Result Typed Fault
typed_input t name sort idle = do
  e ← typed t.names false sort idle
  Ok (record t { ports = t.ports ++ record { name = name.text; sort = sort; idle = e } ∷ [] })

abbrev pub with_local : Typed → List ℕ → Sort → ExprView → Typed
with_local t name sort e =
    let uses : Bool = uses_input t.flags e in
    record t {
      names = declare t.names name (Local (length t.locals) sort uses);
      locals = t.locals ++ record { sort = sort; value = e } ∷ [];
      flags = t.flags ++ uses ∷ [];
    }

-- (let NAME SORT EXPR)
unfoldable pub typed_let : Bool → Typed → Spot → Sort → Expression → Result Typed Fault
typed_let inputs t name sort value = do
  e ← typed t.names inputs sort value
  Ok (with_local t name.text sort e)

-- the latch or memory of this name
abbrev pub entry_named : ℕ → Option Meaning → Result (ℕ × Sort) Fault
entry_named offset (Some (Entry number sort)) = Ok (number, sort)
entry_named offset _ = refused offset UnknownName

-- (next NAME EXPR)
unfoldable pub typed_next : Typed → Spot → Expression → Result Typed Fault
typed_next t name value = do
  entry ← entry_named name.offset (t.names name.text)
  e ← typed t.names true entry.1 value
  Ok (record t { nexts = set t.nexts entry.0 e })

-- (exact N EXPR)
unfoldable pub typed_exact : Typed → ℕ → Expression → Result Typed Fault
typed_exact t count when = do
  e ← typed t.names true sorts.Bool when
  Ok (record t { exact = t.exact ++ record { count = count; when = e } ∷ [] })

-- the number of the function of no argument that has this name
abbrev pub constant_named : ℕ → Option Meaning → Result ℕ Fault
constant_named offset None = refused offset UnknownName
constant_named offset (Some (Symbol number arity predicate)) =
    if (arity == 0) && not predicate then Ok number else refused offset NotConstant
constant_named offset (Some _) = refused offset NotConstant

-- names of constants, each named once
abbrev pub constants : NameMap → NameSet → List Spot → Result (List ℕ) Fault
constants names before [] = Ok []
constants names before (name ∷ rest) = do
  number ← constant_named name.offset (names name.text)
  new ← if before name.text then refused name.offset DeclaredTwice else Ok (tt {0})
  numbers ← constants names (with_text before name.text) rest
  Ok (number ∷ numbers)

-- (distinct NAME NAME ..)
unfoldable pub typed_distinct : Typed → List Spot → Result Typed Fault
typed_distinct t names = do
  group ← constants t.names no_texts names
  Ok (record t { distinct = t.distinct ++ group ∷ [] })

-- one item, in whose lets inputs may be used or not
abbrev pub typed_item : Bool → Typed → ItemView → Result Typed Fault
typed_item inputs t (input_item offset name sort idle) = typed_input t name sort idle
typed_item inputs t (let_item offset name sort value) = typed_let inputs t name sort value
typed_item inputs t (next_item offset name value) = typed_next t name value
typed_item inputs t (exact_item offset count when) = typed_exact t count when
typed_item inputs t (distinct_item offset names) = typed_distinct t names
typed_item inputs t _ = Ok t

-- the items in the order of the text
abbrev pub typed_items : Bool → Typed → List ItemView → Result Typed Fault
typed_items inputs t [] = Ok t
typed_items inputs t (item ∷ items) = do
  u ← typed_item inputs t item
  typed_items inputs u items
