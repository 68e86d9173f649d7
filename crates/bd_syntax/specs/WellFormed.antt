-- What holds of every form that is read. The language is this project's own.
use Rattle.std.specs.Prelude.{◌≢◌, ℕ, ◌+◌, ◌≤◌, ◌||◌, max, List, length, Option, Some, None, IsTrue}
use Rattle.std.specs.List.{AllByRecursion}
use Rattle.bd_text.specs.Nodes.{Node, atom, list, Nodes, no_nodes, node, node_count}
use Rattle.bd_text.specs.Written.{AreShallow}
use Rattle.bd_model.specs.Name.{IsName}
use Rattle.bd_syntax.specs.Name.{is_name}
use Rattle.bd_syntax.specs.Words.{is_truth, is_item_of, operator_of, operator_takes}
use Rattle.bd_syntax.specs.Forms.{Expression, leaf, application, Expressions, no_expressions, expression, expression_count, ItemView, latch_item, memory_item, input_item, function_item, predicate_item, let_item, next_item, flush_item, steps_item, exact_item, distinct_item, AstView, InvView}
use Rattle.bd_syntax.specs.Reading.{kind_place}
use Rattle.bd_syntax.specs.declared.form.Spot.{Spot}
use Rattle.bd_syntax.specs.declared.head.Head.{Head}
use Rattle.bd_syntax.specs.declared.head.Head.TheVariants as heads
use Rattle.bd_syntax.specs.declared.head.Place.{Place}
use Rattle.bd_syntax.specs.declared.head.Place.TheVariants as places
use Rattle.bd_syntax.specs.declared.operator.Operator.{Operator}
use Rattle.bd_model.specs.declared.design.Sort.{Sort}
use Rattle.bd_model.specs.declared.design.Sort.TheVariants as sorts
use Rattle.bd_model.specs.Limits.{longest_text}

-- an operator with as many parts as it takes, or a name
abbrev pub IsHead : List ℕ → ℕ → Option Operator → Type 0
IsHead text parts (Some operator) = IsTrue (operator_takes operator parts)
IsHead text parts None = IsName text

abbrev mutual
  -- leaves are names, true or false, and operators have as many parts as they take
  pub IsExpression : Expression → Type 0
  IsExpression (leaf w) = IsTrue (is_name w.text || is_truth w.text)
  IsExpression (application offset head parts) =
      IsHead head.text (expression_count parts) (operator_of head.text) × AreExpressions parts

  pub AreExpressions : Expressions → Type 0
  AreExpressions no_expressions = Unit {0}
  AreExpressions (expression e es) = IsExpression e × AreExpressions es

abbrev pub IsNamed : Spot → Type 0
IsNamed name = IsName name.text

abbrev pub IsScalar : Sort → Type 0
IsScalar sort = sort ≢ sorts.Memory

-- what an item begins with
abbrev pub item_head : ItemView → Head
item_head (latch_item offset name sort) = heads.Latch
item_head (memory_item offset name) = heads.Memory
item_head (input_item offset name sort idle) = heads.Input
item_head (function_item offset name arity) = heads.Function
item_head (predicate_item offset name arity) = heads.Predicate
item_head (let_item offset name sort value) = heads.Let
item_head (next_item offset name value) = heads.Next
item_head (flush_item offset count) = heads.Flush
item_head (steps_item offset count) = heads.Steps
item_head (exact_item offset count when) = heads.Exact
item_head (distinct_item offset names) = heads.Distinct

-- names are names, numbers are in their ranges, and expressions have no fault of form
abbrev pub HasParts : ItemView → Type 0
HasParts (latch_item offset name sort) = IsNamed name × IsScalar sort
HasParts (memory_item offset name) = IsNamed name
HasParts (input_item offset name sort idle) = IsNamed name × IsScalar sort × IsExpression idle
HasParts (function_item offset name arity) = IsNamed name × (arity ≤ 8)
HasParts (predicate_item offset name arity) = IsNamed name × (arity ≤ 8)
HasParts (let_item offset name sort value) = IsNamed name × IsExpression value
HasParts (next_item offset name value) = IsNamed name × IsExpression value
HasParts (flush_item offset count) = count ≤ 64
HasParts (steps_item offset count) = count ≤ 8
HasParts (exact_item offset count when) = (count ≤ 8) × IsExpression when
HasParts (distinct_item offset names) = (2 ≤ length names) × AllByRecursion IsNamed names

-- an item that may stand in that place
pub record IsItem (place : Place) (item : ItemView) : Type 0 where
  pub fits : IsTrue (is_item_of place (item_head item))
  pub parts : HasParts item

-- a machine file without a fault of form
abbrev pub IsAst : AstView → Type 0
IsAst ast = AllByRecursion (IsItem (kind_place ast.kind)) ast.items

-- an invariant file without a fault of form
pub record IsInvAst (ast : InvView) : Type 0 where
  pub items : AllByRecursion (IsItem places.Invariant) ast.items
  pub value : IsExpression ast.value

-- ---- limits

-- no list is longer than so much
abbrev mutual
  pub IsShort : ℕ → Node → Type 0
  IsShort most (atom offset text) = Unit {0}
  IsShort most (list offset parts) = (node_count parts ≤ most) × AreShort most parts

  pub AreShort : ℕ → Nodes → Type 0
  AreShort most no_nodes = Unit {0}
  AreShort most (node t ts) = IsShort most t × AreShort most ts

-- trees as a text of at most 1,048,576 bytes has them: at most 200 lists are open at once, and none is
-- longer than the text may be
abbrev pub AreWithinLimits : Nodes → Type 0
AreWithinLimits trees = AreShallow trees × AreShort longest_text trees

-- how many lists are open at most inside an expression
abbrev mutual
  pub expression_nesting : Expression → ℕ
  expression_nesting (leaf w) = 0
  expression_nesting (application offset head parts) = 1 + nesting_of_all parts

  pub nesting_of_all : Expressions → ℕ
  nesting_of_all no_expressions = 0
  nesting_of_all (expression e es) = max (expression_nesting e) (nesting_of_all es)

-- no list of parts is longer than so much
abbrev mutual
  pub HasFewParts : ℕ → Expression → Type 0
  HasFewParts most (leaf w) = Unit {0}
  HasFewParts most (application offset head parts) =
      (expression_count parts ≤ most) × HaveFewParts most parts

  pub HaveFewParts : ℕ → Expressions → Type 0
  HaveFewParts most no_expressions = Unit {0}
  HaveFewParts most (expression e es) = HasFewParts most e × HaveFewParts most es

-- an expression nests at most 200 deep, with lists of at most 1,048,576 parts
pub record IsLimited (e : Expression) : Type 0 where
  pub nesting : expression_nesting e ≤ 200
  pub parts : HasFewParts longest_text e

abbrev pub IsLimitedItem : ItemView → Type 0
IsLimitedItem (input_item offset name sort idle) = IsLimited idle
IsLimitedItem (let_item offset name sort value) = IsLimited value
IsLimitedItem (next_item offset name value) = IsLimited value
IsLimitedItem (exact_item offset count when) = IsLimited when
IsLimitedItem (distinct_item offset names) = length names ≤ longest_text
IsLimitedItem _ = Unit {0}

pub record AreLimited (items : List ItemView) : Type 0 where
  pub count : length items ≤ longest_text
  pub each : AllByRecursion IsLimitedItem items

pub record IsLimitedInvAst (ast : InvView) : Type 0 where
  pub items : AreLimited ast.items
  pub value : IsLimited ast.value
