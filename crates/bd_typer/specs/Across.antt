-- The faults across the two machine files, as a set: all stand in the specification. The language is this
-- project's own.
use Rattle.std.specs.Prelude.{ℕ, ◌==◌, Bool, true, false, ◌&&◌, not, List, ◌++◌, Option, Some, None, if◌then◌else◌}
use Rattle.std.specs.List.{filter_map}
use Rattle.bd_text.specs.declared.code.Code.TheVariants.{NotInPipeline, FunctionDiffers}
use Rattle.bd_model.specs.declared.design.Sort.{Sort}
use Rattle.bd_model.specs.declared.design.Sort.TheVariants as sorts
use Rattle.bd_syntax.specs.Forms.{ItemView, latch_item, memory_item, function_item, predicate_item, let_item}
use Rattle.bd_syntax.specs.Reading.{Fault}
use Rattle.bd_syntax.specs.declared.form.Spot.{Spot}
use Rattle.bd_typer.specs.declared.names.Meaning.{Meaning}
use Rattle.bd_typer.specs.declared.names.Meaning.TheVariants.{Entry, Symbol}
use Rattle.bd_typer.specs.Faults.{faults_at}
use Rattle.bd_typer.specs.NameMap.{NameMap}
use Rattle.bd_typer.specs.Typing.{same_sort}

abbrev pub is_entry : Sort → Option Meaning → Bool
is_entry sort (Some (Entry number s)) = same_sort s sort
is_entry sort _ = false

abbrev pub is_symbol : Option Meaning → Bool
is_symbol (Some (Symbol number arity predicate)) = true
is_symbol _ = false

abbrev pub same_truth : Bool → Bool → Bool
same_truth true b = b
same_truth false b = not b

-- not declared, or as the same kind with the same arity
abbrev pub agrees : ℕ → Bool → Option Meaning → Bool
agrees arity predicate None = true
agrees arity predicate (Some (Symbol number a p)) = (a == arity) && same_truth p predicate
agrees arity predicate (Some _) = false

abbrev pub offset_unless : Bool → Spot → Option ℕ
offset_unless ok name = if ok then None else Some name.offset

-- a latch or memory that the pipeline doesn't have as the same kind with the same sort
abbrev pub missing_entry : NameMap → ItemView → Option ℕ
missing_entry pipe (latch_item offset name sort) = offset_unless (is_entry sort (pipe name.text)) name
missing_entry pipe (memory_item offset name) =
    offset_unless (is_entry sorts.Memory (pipe name.text)) name
missing_entry pipe _ = None

-- a name that one of the files declares as a function or predicate, and the other as anything but that
abbrev pub differing_symbol : NameMap → ItemView → Option ℕ
differing_symbol pipe (latch_item offset name sort) =
    offset_unless (not (is_symbol (pipe name.text))) name
differing_symbol pipe (memory_item offset name) =
    offset_unless (not (is_symbol (pipe name.text))) name
differing_symbol pipe (let_item offset name sort value) =
    offset_unless (not (is_symbol (pipe name.text))) name
differing_symbol pipe (function_item offset name arity) =
    offset_unless (agrees arity false (pipe name.text)) name
differing_symbol pipe (predicate_item offset name arity) =
    offset_unless (agrees arity true (pipe name.text)) name
differing_symbol pipe _ = None

abbrev pub across_faults : NameMap → List ItemView → List Fault
across_faults pipe items =
    faults_at NotInPipeline (filter_map (missing_entry pipe) items)
    ++ faults_at FunctionDiffers (filter_map (differing_symbol pipe) items)
