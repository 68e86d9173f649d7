-- What contracts see of the forms of a file.
use Rattle.std.specs.Prelude.{ℕ, ◌+◌, List, [], ◌∷◌, map}
use Rattle.bd_syntax.specs.declared.form.Spot.{Spot}
use Rattle.bd_syntax.specs.declared.form.Form.{Form}
use Rattle.bd_syntax.specs.declared.form.Form.TheOpen.{Form-F, Forms-F}
use Rattle.bd_syntax.specs.declared.form.Form.TheFolds.{fold-Form, fold-Forms}
use Rattle.bd_syntax.specs.declared.form.Forms.{Forms}
use Rattle.bd_model.specs.declared.design.Sort.{Sort}
use Rattle.bd_syntax.specs.declared.item.Item.{Item}
use Rattle.bd_syntax.specs.declared.item.Item.TheVariants.{Latch, Memory, Input, Function, Predicate, Let, Next, Flush, Steps, Exact, Distinct}
use Rattle.bd_syntax.specs.declared.ast.Kind.{Kind}
use Rattle.bd_syntax.specs.declared.ast.Ast.{Ast}
use Rattle.bd_syntax.specs.declared.ast.InvAst.{InvAst}

mutual
  pub data Expression : Type 0 where
    -- a name, true or false
    leaf : Spot → Expression
    -- the offset of a list's parenthesis, its first atom, and its other parts
    application : ℕ → Spot → Expressions → Expression

  pub data Expressions : Type 0 where
    no_expressions : Expressions
    expression : Expression → Expressions → Expressions

-- how many there are
abbrev pub expression_count : Expressions → ℕ
expression_count no_expressions = 0
expression_count (expression e es) = 1 + expression_count es

-- expressions from a list
abbrev pub expressions_from : List Expression → Expressions
expressions_from [] = no_expressions
expressions_from (e ∷ es) = expression e (expressions_from es)

-- one level, with what stands below it already seen
abbrev pub form_step : Form-F Expression Expressions → Expression
form_step (Form-F.Atom spot) = leaf spot
form_step (Form-F.List offset head parts) = application offset head parts

abbrev pub forms_step : Forms-F Expression Expressions → Expressions
forms_step es = expressions_from es.items.items

abbrev pub expression_of : Form → Expression
expression_of = fold-Form Expression Expressions form_step forms_step

abbrev pub expressions_of : Forms → Expressions
expressions_of = fold-Forms Expression Expressions form_step forms_step

abbrev pub expressions_of_all : List Form → Expressions
expressions_of_all es = expressions_from (map expression_of es)

-- an item: the offset of its parenthesis, and its parts
pub data ItemView : Type 0 where
  latch_item : ℕ → Spot → Sort → ItemView
  memory_item : ℕ → Spot → ItemView
  input_item : ℕ → Spot → Sort → Expression → ItemView
  function_item : ℕ → Spot → ℕ → ItemView
  predicate_item : ℕ → Spot → ℕ → ItemView
  let_item : ℕ → Spot → Sort → Expression → ItemView
  next_item : ℕ → Spot → Expression → ItemView
  flush_item : ℕ → ℕ → ItemView
  steps_item : ℕ → ℕ → ItemView
  exact_item : ℕ → ℕ → Expression → ItemView
  distinct_item : ℕ → List Spot → ItemView

abbrev pub item_view : Item → ItemView
item_view (Latch offset name sort) = latch_item offset name sort
item_view (Memory offset name) = memory_item offset name
item_view (Input offset name sort idle) = input_item offset name sort (expression_of idle)
item_view (Function offset name arity) = function_item offset name arity
item_view (Predicate offset name arity) = predicate_item offset name arity
item_view (Let offset name sort value) = let_item offset name sort (expression_of value)
item_view (Next offset name value) = next_item offset name (expression_of value)
item_view (Flush offset count) = flush_item offset count
item_view (Steps offset count) = steps_item offset count
item_view (Exact offset count when) = exact_item offset count (expression_of when)
item_view (Distinct offset names) = distinct_item offset names

-- a machine file: its kind, the offset of its tree, and its items
pub record AstView : Type 0 where
  pub kind : Kind
  pub offset : ℕ
  pub items : List ItemView

abbrev pub ast_view : Ast → AstView
ast_view ast = record { kind = ast.kind; offset = ast.offset; items = map item_view ast.items }

-- an invariant file: the offset of its tree, its lets, and its expression
pub record InvView : Type 0 where
  pub offset : ℕ
  pub items : List ItemView
  pub value : Expression

abbrev pub invariant_view : InvAst → InvView
invariant_view ast =
    record { offset = ast.offset; items = map item_view ast.items; value = expression_of ast.value }
