-- The form of a completion, or its first fault (completion functions: Hosabettu, Srivas and Gopalakrishnan 1998):
-- lets as in an invariant, and after them expressions for visible entries. The language is this project's own.
use Rattle.std.specs.Prelude.{ℕ, ◌≤◌, Bool, false, List, length, map, Result, Ok, codes, if◌then◌else◌}
use Rattle.std.specs.List.{AllByRecursion}
use Rattle.bd_text.specs.Nodes.{Node, atom, list, Nodes, no_nodes, node, node_count}
use Rattle.bd_text.specs.declared.code.Code.TheVariants.{Malformed, NotOfThisFile}
use Rattle.bd_syntax.specs.Words.{same_text, head_of}
use Rattle.bd_syntax.specs.Forms.{Expression, ItemView, expression_of, item_view}
use Rattle.bd_syntax.specs.Reading.{◌>>=◌, Fault, refused, name_form, first_form, others, each_form, expression_form, head_form, item_form, file_form}
use Rattle.bd_syntax.specs.WellFormed.{IsNamed, IsExpression, IsItem, IsLimited, AreLimited}
use Rattle.bd_syntax.specs.declared.form.Spot.{Spot}
use Rattle.bd_syntax.specs.declared.head.Place.TheVariants as places
use Rattle.bd_syntax.specs.declared.ast.Abstract.{Abstract}
use Rattle.bd_syntax.specs.declared.ast.CompAst.{CompAst}
use Rattle.bd_model.specs.Limits.{longest_text}

-- (abstract NAME EXPR): the offset of its parenthesis, the name of the entry, and the expression
pub record AbstractView : Type 0 where
  pub offset : ℕ
  pub name : Spot
  pub value : Expression

abbrev pub abstract_view : Abstract → AbstractView
abstract_view part =
    record { offset = part.offset; name = part.name; value = expression_of part.value }

-- a completion file: the offset of its tree, its lets, and its abstracts
pub record CompView : Type 0 where
  pub offset : ℕ
  pub lets : List ItemView
  pub parts : List AbstractView

abbrev pub completion_view : CompAst → CompView
completion_view ast = record {
  offset = ast.offset;
  lets = map item_view ast.lets;
  parts = map abstract_view ast.parts;
}

-- ---- reading

abbrev pub begins_abstract : List ℕ → Bool
begins_abstract text = same_text text (codes "abstract")

-- a list that begins with abstract
abbrev pub is_abstract : Node → Bool
is_abstract (list offset (node (atom at text) ts)) = begins_abstract text
is_abstract _ = false

-- the parts before the first such list
abbrev pub before_abstracts : Nodes → Nodes
before_abstracts no_nodes = no_nodes
before_abstracts (node t ts) = if is_abstract t then no_nodes else node t (before_abstracts ts)

-- that list, and the parts after it
abbrev pub from_abstracts : Nodes → Nodes
from_abstracts no_nodes = no_nodes
from_abstracts (node t ts) = if is_abstract t then node t ts else from_abstracts ts

-- (abstract NAME EXPR), the parts after its head
unfoldable pub abstracted_form : ℕ → Nodes → Result AbstractView Fault
abstracted_form offset (node t (node u no_nodes)) = do
  name ← name_form t
  value ← expression_form u
  Ok (record { offset = offset; name = name; value = value })
abstracted_form offset _ = refused offset Malformed

-- an item of any other kind, which doesn't stand after an abstract, or no item
unfoldable pub misplaced_form : ℕ → List ℕ → ℕ → Result AbstractView Fault
misplaced_form offset text parts = do
  head ← head_form places.Pipeline offset parts (head_of text)
  refused offset NotOfThisFile

-- an abstract is a list
unfoldable pub abstract_form : Node → Result AbstractView Fault
abstract_form (atom offset text) = refused offset Malformed
abstract_form (list offset parts) = do
  first ← first_form offset parts
  if begins_abstract first.text then abstracted_form offset (others parts)
      else misplaced_form offset first.text (node_count (others parts))

-- (completion LET .. (abstract NAME EXPR) ..)
unfoldable pub completion_form : Nodes → Result CompView Fault
completion_form trees = do
  file ← file_form (codes "completion") trees
  lets ← each_form (item_form places.Invariant) (before_abstracts file.1)
  parts ← each_form abstract_form (from_abstracts file.1)
  Ok (record { offset = file.0; lets = lets; parts = parts })

-- ---- what holds of every completion that is read

abbrev pub IsAbstract : AbstractView → Type 0
IsAbstract part = IsNamed part.name × IsExpression part.value

-- a completion file without a fault of form
pub record IsCompAst (ast : CompView) : Type 0 where
  pub lets : AllByRecursion (IsItem places.Invariant) ast.lets
  pub parts : AllByRecursion IsAbstract ast.parts

pub record IsLimitedCompAst (ast : CompView) : Type 0 where
  pub lets : AreLimited ast.lets
  pub count : length ast.parts ≤ longest_text
  pub each : AllByRecursion (λ (part : AbstractView). IsLimited part.value) ast.parts
