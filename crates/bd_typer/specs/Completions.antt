-- Completions: the faults of their declarations, as a set, and their expressions, each of which stands for a latch or
-- memory of the specification (completion functions: Hosabettu, Srivas and Gopalakrishnan 1998). The language is this
-- project's own.
use Rattle.std.specs.Prelude.{ℕ, false, List, [], ◌∷◌, ◌++◌, map, set, Result, Ok}
use Rattle.std.specs.List.{filter_map}
use Rattle.bd_text.specs.declared.code.Code.TheVariants.{MissingOrTwice}
use Rattle.bd_model.specs.ExprView.{ExprView}
use Rattle.bd_syntax.specs.Completion.{AbstractView, CompView}
use Rattle.bd_syntax.specs.Forms.{AstView}
use Rattle.bd_syntax.specs.Reading.{Fault}
use Rattle.bd_syntax.specs.declared.form.Spot.{Spot}
use Rattle.bd_typer.specs.Declarations.{entry_name, name_faults, offsets, taken_names}
use Rattle.bd_typer.specs.Faults.{◌>>=◌, faults_at}
use Rattle.bd_typer.specs.NameMap.{NameMap}
use Rattle.bd_typer.specs.Repeats.{no_texts, with_names, repeated, fresh}
use Rattle.bd_typer.specs.Typing.{typed}
use Rattle.bd_typer.specs.Walk.{entry_named}

-- ---- declarations

abbrev pub abstract_name : AbstractView → Spot
abstract_name part = part.name

abbrev pub abstract_names : CompView → List Spot
abstract_names comp = map abstract_name comp.parts

-- the offset of the file's tree, for each of these names
abbrev pub tree_offsets : CompView → List Spot → List ℕ
tree_offsets comp names = map (λ (name : Spot). comp.offset) names

-- a second abstract for one name, and a latch or memory of the specification without an abstract, which is seen at the
-- offset of the file's tree
abbrev pub abstract_faults : AstView → CompView → List Fault
abstract_faults spec comp =
    faults_at MissingOrTwice (offsets (repeated no_texts (abstract_names comp)))
    ++ faults_at MissingOrTwice (tree_offsets comp (fresh
    (with_names no_texts (abstract_names comp)) (filter_map entry_name spec.items)))

-- the lets declare names as those of an invariant do
abbrev pub completion_faults : AstView → AstView → CompView → List Fault
completion_faults pipe spec comp =
    name_faults (taken_names pipe spec) comp.lets ++ abstract_faults spec comp

-- ---- expressions

-- (abstract NAME EXPR): the name is that of a latch or memory of the specification, and the expression of its sort,
-- over the names that an invariant may use
unfoldable pub typed_abstract : NameMap → NameMap → List ExprView → AbstractView → Result (List ExprView) Fault
typed_abstract names spec parts part = do
  entry ← entry_named part.name.offset (spec part.name.text)
  e ← typed names false entry.1 part.value
  Ok (set parts entry.0 e)

-- in the order of the text; each expression stands at the place of its entry
abbrev pub typed_abstracts : NameMap → NameMap → List ExprView → List AbstractView → Result (List ExprView) Fault
typed_abstracts names spec parts [] = Ok parts
typed_abstracts names spec parts (part ∷ rest) = do
  more ← typed_abstract names spec parts part
  typed_abstracts names spec more rest
