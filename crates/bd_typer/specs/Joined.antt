-- The design that files denote, or their first fault: the passes follow each other, and each goes over the
-- pipeline, the specification, a completion and the invariant. The language is this project's own.
use Rattle.std.specs.Prelude.{ℕ, true, false, List, [], ◌∷◌, ◌++◌, map, length, replicate, Option, Some, None, Result, Ok}
use Rattle.std.specs.List.{filter_map}
use Rattle.bd_model.specs.Abstraction.{AbstractionView, flushing, given, abstraction_view}
use Rattle.bd_model.specs.declared.design.Sort.TheVariants as sorts
use Rattle.bd_model.specs.declared.design.Entry as entry
use Rattle.bd_model.specs.declared.design.Symbol as symbol
use Rattle.bd_model.specs.ExprView.{ExprView, Truth}
use Rattle.bd_model.specs.DesignView.{DesignView, MachineView, LocalView, design_view}
use Rattle.bd_syntax.specs.Completion.{CompView}
use Rattle.bd_syntax.specs.Forms.{ItemView, flush_item, steps_item, AstView, InvView}
use Rattle.bd_syntax.specs.Reading.{Fault}
use Rattle.bd_typer.specs.declared.fault.Text.TheVariants.{Pipe, Spec, Comp, Inv}
use Rattle.bd_typer.specs.declared.joining.Joined.{Joined}
use Rattle.bd_typer.specs.declared.names.Meaning.{Meaning}
use Rattle.bd_typer.specs.declared.names.Meaning.TheVariants.{Entry}
use Rattle.bd_typer.specs.Faults.{◌>>=◌, FileFault, in_file, without_faults}
use Rattle.bd_typer.specs.Completions.{completion_faults, typed_abstracts}
use Rattle.bd_typer.specs.Declarations.{declaration_faults, invariant_faults}
use Rattle.bd_typer.specs.NameMap.{NameMap, no_names, scope_of, shared_names}
use Rattle.bd_typer.specs.Typing.{typed}
use Rattle.bd_typer.specs.Walk.{Typed, typed_items}
use Rattle.bd_typer.specs.Across.{across_faults}

-- ---- declarations

abbrev pub declared_inv : AstView → AstView → Option InvView → Result (Unit {0}) Fault
declared_inv pipe spec None = Ok (tt {0})
declared_inv pipe spec (Some inv) = without_faults (invariant_faults pipe spec inv)

-- no completion has no fault
abbrev pub declared_comp : AstView → AstView → Option CompView → Result (Unit {0}) Fault
declared_comp pipe spec None = Ok (tt {0})
declared_comp pipe spec (Some comp) = without_faults (completion_faults pipe spec comp)

unfoldable pub declared : AstView → AstView → Option CompView → Option InvView → Result (Unit {0}) FileFault
declared pipe spec comp inv = do
  first ← in_file Pipe (without_faults (declaration_faults pipe))
  second ← in_file Spec (without_faults (declaration_faults spec))
  third ← in_file Comp (declared_comp pipe spec comp)
  in_file Inv (declared_inv pipe spec inv)

-- ---- expressions

abbrev pub start : NameMap → ℕ → Typed
start names entries = record {
  names = names;
  ports = [];
  locals = [];
  flags = [];
  nexts = replicate entries (Truth false);
  exact = [];
  distinct = [];
}

-- a machine file: its entries, the symbols of the design so far, and what its expressions are
pub record TypedMachine : Type 0 where
  pub entries : List entry.Entry
  pub symbols : List symbol.Symbol
  pub typed : Typed

unfoldable pub typed_machine : NameMap → List symbol.Symbol → List ItemView → Result TypedMachine Fault
typed_machine others symbols items = do
  t ← typed_items true (start (scope_of others symbols items).names (length (scope_of others symbols items).entries)) items
  Ok (record {
    entries = (scope_of others symbols items).entries;
    symbols = (scope_of others symbols items).symbols;
    typed = t;
  })

-- the lets and the expression of an invariant, which use no input
pub record TypedInv : Type 0 where
  pub locals : List LocalView
  pub value : ExprView

-- an invariant that isn't given is true
unfoldable pub typed_inv : NameMap → Option InvView → Result TypedInv Fault
typed_inv names None = Ok (record { locals = []; value = Truth true })
typed_inv names (Some inv) = do
  t ← typed_items false (start names 0) inv.items
  e ← typed t.names false sorts.Bool inv.value
  Ok (record { locals = t.locals; value = e })

-- what a completion abstracts to, after the names of an invariant and those of so many entries: one that isn't given
-- to what flushing shows
unfoldable pub typed_completion : NameMap → NameMap → ℕ → Option CompView → Result AbstractionView Fault
typed_completion names spec entries None = Ok flushing
typed_completion names spec entries (Some comp) = do
  t ← typed_items false (start names 0) comp.lets
  parts ← typed_abstracts t.names spec (replicate entries (Truth false)) comp.parts
  Ok (given t.locals parts)

-- ---- the design

-- the first of some numbers, which is there once no fault is
abbrev pub first_count : List ℕ → ℕ
first_count [] = 0
first_count (count ∷ counts) = count

abbrev pub flush_count : ItemView → Option ℕ
flush_count (flush_item offset count) = Some count
flush_count _ = None

abbrev pub steps_count : ItemView → Option ℕ
steps_count (steps_item offset count) = Some count
steps_count _ = None

-- the place of an entry
abbrev pub entry_place : Option Meaning → ℕ
entry_place (Some (Entry number sort)) = number
entry_place _ = 0

abbrev pub machine_of : TypedMachine → MachineView
machine_of m = record {
  entries = m.entries;
  ports = m.typed.ports;
  locals = m.typed.locals;
  nexts = m.typed.nexts;
}

-- the symbols are those of the pipeline, and then those that the specification alone has
abbrev pub assembled : List ItemView → TypedMachine → TypedMachine → TypedInv → DesignView
assembled items pipe spec inv = record {
  pipe = machine_of pipe;
  spec = machine_of spec;
  symbols = spec.symbols;
  visible = map (λ (x : entry.Entry). entry_place (pipe.typed.names x.name)) spec.entries;
  flush = first_count (filter_map flush_count items);
  steps = first_count (filter_map steps_count items);
  inv_locals = inv.locals;
  inv = inv.value;
  exact = pipe.typed.exact;
  distinct = pipe.typed.distinct ++ spec.typed.distinct;
}

-- a design, and what its states stand for
pub record JoinedView : Type 0 where
  pub design : DesignView
  pub abs : AbstractionView

abbrev pub joined_view : Joined → JoinedView
joined_view j = record { design = design_view j.design; abs = abstraction_view j.abs }

-- what a completion and an invariant say of both machines
pub record Claims : Type 0 where
  pub abs : AbstractionView
  pub inv : TypedInv

-- an invariant, and then the specification against the pipeline
unfoldable pub tested_inv : NameMap → NameMap → List ItemView → Option InvView → Result TypedInv FileFault
tested_inv pipe spec items inv = do
  i ← in_file Inv (typed_inv (shared_names pipe spec) inv)
  last ← in_file Spec (without_faults (across_faults pipe items))
  Ok i

unfoldable pub claimed : NameMap → TypedMachine → List ItemView → Option CompView → Option InvView → Result Claims FileFault
claimed pipe spec items comp inv = do
  a ← in_file Comp (typed_completion (shared_names pipe spec.typed.names) spec.typed.names (length spec.entries) comp)
  i ← tested_inv pipe spec.typed.names items inv
  Ok (record { abs = a; inv = i })

-- once the pipeline and the specification are gone through
unfoldable pub joined_machines : List ItemView → TypedMachine → List ItemView → TypedMachine → Option CompView → Option InvView → Result JoinedView FileFault
joined_machines pipe p spec s comp inv = do
  c ← claimed p.typed.names s spec comp inv
  Ok (record { design = assembled pipe p s c.inv; abs = c.abs })

-- once the pipeline is gone through
unfoldable pub joined_onto : List ItemView → TypedMachine → List ItemView → Option CompView → Option InvView → Result JoinedView FileFault
joined_onto pipe p spec comp inv = do
  s ← in_file Spec (typed_machine p.typed.names p.symbols spec)
  joined_machines pipe p spec s comp inv

-- once the declarations are gone through
unfoldable pub joined_items : List ItemView → List ItemView → Option CompView → Option InvView → Result JoinedView FileFault
joined_items pipe spec comp inv = do
  p ← in_file Pipe (typed_machine no_names [] pipe)
  joined_onto pipe p spec comp inv

-- the design and the abstraction of files, or their first fault
unfoldable pub joined_with : AstView → AstView → Option CompView → Option InvView → Result JoinedView FileFault
joined_with pipe spec comp inv = do
  first ← declared pipe spec comp inv
  joined_items pipe.items spec.items comp inv

-- the design where no completion is given
unfoldable pub joined : AstView → AstView → Option InvView → Result DesignView FileFault
joined pipe spec inv = do
  j ← joined_with pipe spec None inv
  Ok j.design

-- both where one is given
abbrev pub joined_completion : AstView → AstView → CompView → Option InvView → Result JoinedView FileFault
joined_completion pipe spec comp inv = joined_with pipe spec (Some comp) inv
