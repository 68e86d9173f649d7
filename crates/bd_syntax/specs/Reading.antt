-- The form of a file, or its first fault. Forms are looked at from left to right, and a list's own shape
-- before its parts. The language and its codes are this project's own.
use Rattle.std.specs.Prelude.{◌≡◌, ℕ, ◌+◌, ◌-◌, ◌*◌, Bool, false, ◌&&◌, ◌||◌, ◌==◌, not, List, [], ◌∷◌, length, Option, Some, None, Result, Ok, Err, codes, fold, nat_le, if◌then◌else◌}
use Rattle.std.specs.List.{list_all}
use Rattle.bd_text.specs.Nodes.{Node, atom, list, Nodes, no_nodes, node, node_count}
use Rattle.bd_text.specs.declared.code.Code.{Code}
use Rattle.bd_text.specs.declared.code.Code.TheVariants.{WrongHead, Malformed, NotName, NotNumber, NotOfThisFile}
use Rattle.bd_model.specs.Name.{is_digit}
use Rattle.bd_syntax.specs.Name.{is_name}
use Rattle.bd_syntax.specs.Words.{same_text, is_truth, head_of, head_takes, is_item_of, operator_of, operator_takes}
use Rattle.bd_syntax.specs.Forms.{Expression, leaf, application, Expressions, no_expressions, expression, ItemView, latch_item, memory_item, input_item, function_item, predicate_item, let_item, next_item, flush_item, steps_item, exact_item, distinct_item, AstView, InvView}
use Rattle.bd_syntax.specs.declared.form.Spot.{Spot}
use Rattle.bd_text.specs.declared.fault.TextFault.{TextFault}
use Rattle.bd_text.specs.declared.fault.TextFault.TheVariants as faults
use Rattle.bd_syntax.specs.declared.head.Head.{Head}
use Rattle.bd_syntax.specs.declared.head.Head.TheVariants as heads
use Rattle.bd_syntax.specs.declared.head.Place.{Place}
use Rattle.bd_syntax.specs.declared.head.Place.TheVariants as places
use Rattle.bd_syntax.specs.declared.operator.Operator.{Operator}
use Rattle.bd_model.specs.declared.design.Sort.{Sort}
use Rattle.bd_model.specs.declared.design.Sort.TheVariants as sorts
use Rattle.bd_syntax.specs.declared.ast.Kind.{Kind}
use Rattle.bd_syntax.specs.declared.ast.Kind.TheVariants as kinds

-- a fault and its place
pub record Fault : Type 0 where
  pub offset : ℕ
  pub code : Code

-- the first fault counts
infixl 10 ◌>>=◌
abbrev pub ◌>>=◌ : {A B : Type 0} → Result A Fault → (A → Result B Fault) → Result B Fault
(Ok x) >>= f = f x
(Err e) >>= f = Err e

-- reading ends here
abbrev pub refused : {A : Type 0} → ℕ → Code → Result A Fault
refused offset code = Err (record { offset = offset; code = code })

-- What a function returned, as its view shows it, is what reading gives, unless memory ran out.
abbrev pub Fails : {B : Type 0} → TextFault → Result B Fault → Type 0
Fails (faults.Bad offset code) reading = reading ≡ Err (record { offset = offset; code = code })
Fails faults.Memory reading = Unit {0}

abbrev pub Gives : {A B : Type 0} → (A → B) → Result A TextFault → Result B Fault → Type 0
Gives view (Ok x) reading = reading ≡ Ok (view x)
Gives view (Err fault) reading = Fails fault reading

abbrev pub spot : ℕ → List ℕ → Spot
spot offset text = record { offset = offset; text = text }

-- ---- atoms

-- an atom where an atom must stand
abbrev pub atom_form : Node → Result Spot Fault
atom_form (atom offset text) = Ok (spot offset text)
atom_form (list offset parts) = refused offset Malformed

-- an atom that is a name
unfoldable pub name_form : Node → Result Spot Fault
name_form t = do
  name ← atom_form t
  if is_name name.text then Ok name else refused name.offset NotName

-- decimal digits without a leading zero, 0 itself aside
abbrev pub is_number : List ℕ → Bool
is_number [] = false
is_number (b ∷ bs) = (is_digit b && list_all is_digit bs) && (not (b == 48) || length bs == 0)

-- the number that digits write
abbrev pub number_of : List ℕ → ℕ
number_of digits = fold (λ n b. 10 * n + (b - 48)) 0 digits

-- an atom that is a number of at most so much
unfoldable pub number_form : ℕ → Node → Result ℕ Fault
number_form most t = do
  digits ← atom_form t
  if is_number digits.text && nat_le (number_of digits.text) most
      then Ok (number_of digits.text) else refused digits.offset NotNumber

-- the sort of a latch or an input
unfoldable pub scalar_form : Node → Result Sort Fault
scalar_form t = do
  sort ← atom_form t
  if same_text sort.text (codes "word") then Ok sorts.Word
      else (if same_text sort.text (codes "bool") then Ok sorts.Bool else refused sort.offset Malformed)

-- the sort of a let
unfoldable pub sort_form : Node → Result Sort Fault
sort_form t = do
  sort ← atom_form t
  if same_text sort.text (codes "memory") then Ok sorts.Memory else scalar_form t

-- ---- lists

-- the first part of a list, which must be an atom
abbrev pub first_form : ℕ → Nodes → Result Spot Fault
first_form offset no_nodes = refused offset Malformed
first_form offset (node (atom at text) ts) = Ok (spot at text)
first_form offset (node (list at parts) ts) = refused offset Malformed

-- the other parts
abbrev pub others : Nodes → Nodes
others no_nodes = no_nodes
others (node t ts) = ts

-- each of the parts
abbrev pub each_form : {A : Type 0} → (Node → Result A Fault) → Nodes → Result (List A) Fault
each_form form no_nodes = Ok []
each_form form (node t ts) = do
  x ← form t
  xs ← each_form form ts
  Ok (x ∷ xs)

-- ---- expressions

-- an operator with as many parts as it takes, or a name with any number
abbrev pub operator_form : ℕ → Spot → ℕ → Option Operator → Result Spot Fault
operator_form offset head parts (Some operator) =
    if operator_takes operator parts then Ok head else refused offset Malformed
operator_form offset head parts None =
    if is_name head.text then Ok head else refused head.offset NotName

-- a name, true or false
unfoldable pub leaf_form : ℕ → List ℕ → Result Expression Fault
leaf_form offset text =
    if is_name text || is_truth text then Ok (leaf (spot offset text)) else refused offset NotName

abbrev mutual
  -- a leaf, or a list whose first part is an operator or a name
  pub expression_form : Node → Result Expression Fault
  expression_form (atom offset text) = leaf_form offset text
  expression_form (list offset parts) = do
    first ← first_form offset parts
    head ← operator_form offset first (node_count (others parts)) (operator_of first.text)
    arguments ← argument_forms parts
    Ok (application offset head arguments)

  -- the parts after the first
  pub argument_forms : Nodes → Result Expressions Fault
  argument_forms no_nodes = Ok no_expressions
  argument_forms (node t ts) = expression_forms ts

  pub expression_forms : Nodes → Result Expressions Fault
  expression_forms no_nodes = Ok no_expressions
  expression_forms (node t ts) = do
    e ← expression_form t
    es ← expression_forms ts
    Ok (expression e es)

-- ---- items

-- (latch NAME SORT)
unfoldable pub latch_form : ℕ → Node → Node → Result ItemView Fault
latch_form offset t u = do
  name ← name_form t
  sort ← scalar_form u
  Ok (latch_item offset name sort)

-- (memory NAME)
unfoldable pub memory_form : ℕ → Node → Result ItemView Fault
memory_form offset t = do
  name ← name_form t
  Ok (memory_item offset name)

-- (input NAME SORT EXPR)
unfoldable pub input_form : ℕ → Node → Node → Node → Result ItemView Fault
input_form offset t u v = do
  name ← name_form t
  sort ← scalar_form u
  idle ← expression_form v
  Ok (input_item offset name sort idle)

-- (function NAME N)
unfoldable pub function_form : ℕ → Node → Node → Result ItemView Fault
function_form offset t u = do
  name ← name_form t
  arity ← number_form 8 u
  Ok (function_item offset name arity)

-- (predicate NAME N)
unfoldable pub predicate_form : ℕ → Node → Node → Result ItemView Fault
predicate_form offset t u = do
  name ← name_form t
  arity ← number_form 8 u
  Ok (predicate_item offset name arity)

-- (let NAME SORT EXPR)
unfoldable pub let_form : ℕ → Node → Node → Node → Result ItemView Fault
let_form offset t u v = do
  name ← name_form t
  sort ← sort_form u
  value ← expression_form v
  Ok (let_item offset name sort value)

-- (next NAME EXPR)
unfoldable pub next_form : ℕ → Node → Node → Result ItemView Fault
next_form offset t u = do
  name ← name_form t
  value ← expression_form u
  Ok (next_item offset name value)

-- (flush N)
unfoldable pub flush_form : ℕ → Node → Result ItemView Fault
flush_form offset t = do
  count ← number_form 64 t
  Ok (flush_item offset count)

-- (steps N)
unfoldable pub steps_form : ℕ → Node → Result ItemView Fault
steps_form offset t = do
  count ← number_form 8 t
  Ok (steps_item offset count)

-- (exact N EXPR)
unfoldable pub exact_form : ℕ → Node → Node → Result ItemView Fault
exact_form offset t u = do
  count ← number_form 8 t
  when ← expression_form u
  Ok (exact_item offset count when)

-- (distinct NAME NAME ..)
unfoldable pub distinct_form : ℕ → Nodes → Result ItemView Fault
distinct_form offset ts = do
  names ← each_form name_form ts
  Ok (distinct_item offset names)

-- the parts after the head of an item
abbrev pub parts_form : ℕ → Head → Nodes → Result ItemView Fault
parts_form offset heads.Latch (node t (node u no_nodes)) = latch_form offset t u
parts_form offset heads.Memory (node t no_nodes) = memory_form offset t
parts_form offset heads.Input (node t (node u (node v no_nodes))) = input_form offset t u v
parts_form offset heads.Function (node t (node u no_nodes)) = function_form offset t u
parts_form offset heads.Predicate (node t (node u no_nodes)) = predicate_form offset t u
parts_form offset heads.Let (node t (node u (node v no_nodes))) = let_form offset t u v
parts_form offset heads.Next (node t (node u no_nodes)) = next_form offset t u
parts_form offset heads.Flush (node t no_nodes) = flush_form offset t
parts_form offset heads.Steps (node t no_nodes) = steps_form offset t
parts_form offset heads.Exact (node t (node u no_nodes)) = exact_form offset t u
parts_form offset heads.Distinct ts = distinct_form offset ts
parts_form offset _ _ = refused offset Malformed

-- the head of an item, with as many parts as it takes, in a file where it may stand
abbrev pub head_form : Place → ℕ → ℕ → Option Head → Result Head Fault
head_form place offset parts None = refused offset Malformed
head_form place offset parts (Some head) =
    if head_takes head parts
    then (if is_item_of place head then Ok head else refused offset NotOfThisFile)
    else refused offset Malformed

-- an item is a list
unfoldable pub item_form : Place → Node → Result ItemView Fault
item_form place (atom offset text) = refused offset Malformed
item_form place (list offset parts) = do
  first ← first_form offset parts
  head ← head_form place offset (node_count (others parts)) (head_of first.text)
  parts_form offset head (others parts)

-- ---- files

-- the offset of a list and the parts after its first, which must be this text
abbrev pub headed_form : List ℕ → Node → Result (ℕ × Nodes) Fault
headed_form head (list offset (node (atom at text) ts)) =
    if same_text text head then Ok (offset, ts) else refused offset WrongHead
headed_form head (list offset _) = refused offset WrongHead
headed_form head (atom offset text) = refused offset WrongHead

abbrev pub offset_of : Node → ℕ
offset_of (atom offset text) = offset
offset_of (list offset parts) = offset

-- no further tree
abbrev pub end_form : Nodes → Result (Unit {0}) Fault
end_form no_nodes = Ok tt
end_form (node t ts) = refused (offset_of t) WrongHead

-- one tree, a list that begins with this text
abbrev pub file_form : List ℕ → Nodes → Result (ℕ × Nodes) Fault
file_form head no_nodes = refused 0 WrongHead
file_form head (node t ts) = do
  inside ← headed_form head t
  end ← end_form ts
  Ok inside

abbrev pub kind_text : Kind → List ℕ
kind_text kinds.Pipeline = codes "pipeline"
kind_text kinds.Specification = codes "specification"

abbrev pub kind_place : Kind → Place
kind_place kinds.Pipeline = places.Pipeline
kind_place kinds.Specification = places.Specification

-- (pipeline ITEM ..), (specification ITEM ..)
unfoldable pub machine_form : Kind → Nodes → Result AstView Fault
machine_form kind trees = do
  file ← file_form (kind_text kind) trees
  items ← each_form (item_form (kind_place kind)) file.1
  Ok (record { kind = kind; offset = file.0; items = items })

-- all but the last
abbrev pub before_last : Nodes → Nodes
before_last no_nodes = no_nodes
before_last (node t no_nodes) = no_nodes
before_last (node t (node u us)) = node t (before_last (node u us))

abbrev pub last_node : Nodes → Option Node
last_node no_nodes = None
last_node (node t no_nodes) = Some t
last_node (node t (node u us)) = last_node (node u us)

-- the last part of a list, which must be there
abbrev pub value_form : ℕ → Option Node → Result Expression Fault
value_form offset None = refused offset Malformed
value_form offset (Some t) = expression_form t

-- (HEAD LET .. EXPR), where HEAD is invariant or start
unfoldable pub invariant_form : List ℕ → Nodes → Result InvView Fault
invariant_form head trees = do
  file ← file_form head trees
  items ← each_form (item_form places.Invariant) (before_last file.1)
  value ← value_form file.0 (last_node file.1)
  Ok (record { offset = file.0; items = items; value = value })
