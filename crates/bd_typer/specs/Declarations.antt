-- The faults of a file's declarations, as sets. The language is this project's own.
use Rattle.std.specs.Prelude.{ℕ, List, [], ◌∷◌, ◌++◌, map, Option, Some, None}
use Rattle.std.specs.List.{filter_map}
use Rattle.bd_text.specs.declared.code.Code.TheVariants.{DeclaredTwice, MissingOrTwice, FlushOrSteps}
use Rattle.bd_syntax.specs.Forms.{ItemView, latch_item, memory_item, input_item, function_item, predicate_item, let_item, next_item, flush_item, steps_item, AstView, InvView}
use Rattle.bd_syntax.specs.Reading.{Fault}
use Rattle.bd_syntax.specs.declared.form.Spot.{Spot}
use Rattle.bd_syntax.specs.declared.ast.Kind.{Kind}
use Rattle.bd_syntax.specs.declared.ast.Kind.TheVariants.{Pipeline, Specification}
use Rattle.bd_typer.specs.Faults.{faults_at}
use Rattle.bd_typer.specs.Repeats.{NameSet, no_texts, with_names, repeated, fresh}

-- the name that an item declares
abbrev pub declared_name : ItemView → Option Spot
declared_name (latch_item offset name sort) = Some name
declared_name (memory_item offset name) = Some name
declared_name (input_item offset name sort idle) = Some name
declared_name (function_item offset name arity) = Some name
declared_name (predicate_item offset name arity) = Some name
declared_name (let_item offset name sort value) = Some name
declared_name _ = None

-- the name that it declares as a latch or memory
abbrev pub entry_name : ItemView → Option Spot
entry_name (latch_item offset name sort) = Some name
entry_name (memory_item offset name) = Some name
entry_name _ = None

-- the name that it declares as a function or predicate
abbrev pub symbol_name : ItemView → Option Spot
symbol_name (function_item offset name arity) = Some name
symbol_name (predicate_item offset name arity) = Some name
symbol_name _ = None

-- the name whose next value it gives
abbrev pub next_name : ItemView → Option Spot
next_name (next_item offset name value) = Some name
next_name _ = None

abbrev pub flush_offset : ItemView → Option ℕ
flush_offset (flush_item offset count) = Some offset
flush_offset _ = None

abbrev pub steps_offset : ItemView → Option ℕ
steps_offset (steps_item offset count) = Some offset
steps_offset _ = None

abbrev pub offsets : List Spot → List ℕ
offsets names = map (λ (name : Spot). name.offset) names

-- a name that is declared in the file before, or known from elsewhere
abbrev pub name_faults : NameSet → List ItemView → List Fault
name_faults known items =
    faults_at DeclaredTwice (offsets (repeated known (filter_map declared_name items)))

-- a second next for one name, and a latch or memory without a next, where it is declared first
abbrev pub next_faults : List ItemView → List Fault
next_faults items =
    faults_at MissingOrTwice (offsets (repeated no_texts (filter_map next_name items)))
    ++ faults_at MissingOrTwice (offsets (fresh
    (with_names no_texts (filter_map next_name items)) (filter_map entry_name items)))

-- what must stand once is missing, which is seen at the offset of the file's tree, or is given again
abbrev pub not_once : ℕ → List ℕ → List ℕ
not_once tree [] = tree ∷ []
not_once tree (first ∷ again) = again

abbrev pub count_faults : Kind → ℕ → List ItemView → List Fault
count_faults Pipeline tree items =
    faults_at FlushOrSteps (not_once tree (filter_map flush_offset items))
    ++ faults_at FlushOrSteps (not_once tree (filter_map steps_offset items))
count_faults Specification tree items = []

-- the faults of a machine file
abbrev pub declaration_faults : AstView → List Fault
declaration_faults ast =
    name_faults no_texts ast.items
    ++ (next_faults ast.items ++ count_faults ast.kind ast.offset ast.items)

-- the names that an invariant may not declare: those of the pipeline, and the specification's functions and
-- predicates
abbrev pub taken_names : AstView → AstView → NameSet
taken_names pipe spec =
    with_names (with_names no_texts (filter_map declared_name pipe.items))
    (filter_map symbol_name spec.items)

-- the faults of an invariant file
abbrev pub invariant_faults : AstView → AstView → InvView → List Fault
invariant_faults pipe spec inv = name_faults (taken_names pipe spec) inv.items
