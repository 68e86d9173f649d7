-- What the names of a file mean. The language is this project's own.
use Rattle.std.specs.Prelude.{ℕ, ◌+◌, Bool, true, false, List, [], ◌∷◌, ◌++◌, length, fold, Option, Some, None, if◌then◌else◌}
use Rattle.bd_model.specs.declared.design.Sort.{Sort}
use Rattle.bd_model.specs.declared.design.Sort.TheVariants as sorts
use Rattle.bd_model.specs.declared.design.Entry as entry
use Rattle.bd_model.specs.declared.design.Symbol as symbol
use Rattle.bd_syntax.specs.Words.{same_text}
use Rattle.bd_syntax.specs.Forms.{ItemView, latch_item, memory_item, input_item, function_item, predicate_item, let_item}
use Rattle.bd_typer.specs.declared.names.Meaning.{Meaning}
use Rattle.bd_typer.specs.declared.names.Meaning.TheVariants.{Entry, Input, Symbol, Later}

-- what each text means, if it is a name that is declared
abbrev pub NameMap : Type 0
NameMap = List ℕ → Option Meaning

abbrev pub no_names : NameMap
no_names = λ text. None

-- from now on the name means this
abbrev pub declare : NameMap → List ℕ → Meaning → NameMap
declare names name meaning = λ text. if same_text name text then Some meaning else names text

-- what the items of a machine file declare
pub record Scope : Type 0 where
  pub names : NameMap
  pub entries : List entry.Entry
  pub inputs : ℕ
  -- the symbols of the design so far
  pub symbols : List symbol.Symbol

abbrev pub with_entry : Scope → List ℕ → Sort → Scope
with_entry scope name sort = record scope {
  names = declare scope.names name (Entry (length scope.entries) sort);
  entries = scope.entries ++ record { name = name; sort = sort } ∷ [];
}

abbrev pub with_input : Scope → List ℕ → Sort → Scope
with_input scope name sort = record scope {
  names = declare scope.names name (Input scope.inputs sort);
  inputs = scope.inputs + 1;
}

-- a function or predicate has the number that the other file's one of the name has, or the next
abbrev pub with_symbol : Scope → List ℕ → ℕ → Bool → Option Meaning → Scope
with_symbol scope name arity predicate (Some (Symbol number a p)) =
    record scope { names = declare scope.names name (Symbol number arity predicate) }
with_symbol scope name arity predicate _ = record scope {
  names = declare scope.names name (Symbol (length scope.symbols) arity predicate);
  symbols = scope.symbols ++ record { name = name; arity = arity; predicate = predicate } ∷ [];
}

-- what is declared once an item is: a let is there, and means nothing before its item
abbrev pub with_item : NameMap → Scope → ItemView → Scope
with_item others scope (latch_item offset name sort) = with_entry scope name.text sort
with_item others scope (memory_item offset name) = with_entry scope name.text sorts.Memory
with_item others scope (input_item offset name sort idle) = with_input scope name.text sort
with_item others scope (function_item offset name arity) =
    with_symbol scope name.text arity false (others name.text)
with_item others scope (predicate_item offset name arity) =
    with_symbol scope name.text arity true (others name.text)
with_item others scope (let_item offset name sort value) =
    record scope { names = declare scope.names name.text Later }
with_item others scope _ = scope

-- the scope of a machine file, after that of the other file
abbrev pub scope_of : NameMap → List symbol.Symbol → List ItemView → Scope
scope_of others symbols items =
    fold (with_item others)
    (record { names = no_names; entries = []; inputs = 0; symbols = symbols }) items

-- what a name means in an invariant: what it means in the pipeline, where that is no let, else the
-- specification's function or predicate
abbrev pub shared_meaning : Option Meaning → Option Meaning → Option Meaning
shared_meaning (Some (Entry number sort)) spec = Some (Entry number sort)
shared_meaning (Some (Input number sort)) spec = Some (Input number sort)
shared_meaning (Some (Symbol number arity predicate)) spec = Some (Symbol number arity predicate)
shared_meaning pipe (Some (Symbol number arity predicate)) = Some (Symbol number arity predicate)
shared_meaning pipe spec = None

abbrev pub shared_names : NameMap → NameMap → NameMap
shared_names pipe spec = λ text. shared_meaning (pipe text) (spec text)
