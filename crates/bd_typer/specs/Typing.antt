-- The sorts of expressions, and what their names stand for. The language is this project's own.
use Rattle.std.specs.Prelude.{ℕ, ◌+◌, ◌==◌, Bool, true, false, ◌||◌, not, List, [], ◌∷◌, Option, Some, None, Result, Ok, codes, if◌then◌else◌}
use Rattle.bd_text.specs.declared.code.Code.TheVariants.{UnknownName, WrongSort, WrongArity, InputNotAllowed}
use Rattle.bd_model.specs.declared.design.Sort.{Sort}
use Rattle.bd_model.specs.declared.design.Sort.TheVariants as sorts
use Rattle.bd_model.specs.ExprView.{ExprView, Truth, views_of_list}
use Rattle.bd_model.specs.ExprView as view
use Rattle.bd_syntax.specs.Words.{same_text, operator_of}
use Rattle.bd_syntax.specs.Forms.{Expression, leaf, application, Expressions, no_expressions, expression, expression_count}
use Rattle.bd_syntax.specs.Reading.{Fault, refused}
use Rattle.bd_syntax.specs.declared.form.Spot.{Spot}
use Rattle.bd_syntax.specs.declared.operator.Operator as operator
use Rattle.bd_syntax.specs.declared.operator.Operator.TheVariants.{Not, And, Or, Implies, Iff, Equal, Ite, Read, Write}
use Rattle.bd_typer.specs.declared.names.Meaning.{Meaning}
use Rattle.bd_typer.specs.declared.names.Meaning.TheVariants.{Entry, Input, Symbol, Local, Later}
use Rattle.bd_typer.specs.declared.operation.Operation.{Operation}
use Rattle.bd_typer.specs.declared.operation.Operation.TheVariants.{Operator, Apply}
use Rattle.bd_typer.specs.Faults.{◌>>=◌}
use Rattle.bd_typer.specs.NameMap.{NameMap}

abbrev pub same_sort : Sort → Sort → Bool
same_sort sorts.Bool sorts.Bool = true
same_sort sorts.Word sorts.Word = true
same_sort sorts.Memory sorts.Memory = true
same_sort a b = false

-- something of a sort, where one is wanted
abbrev pub of_sort : {A : Type 0} → Sort → ℕ → A → Sort → Result A Fault
of_sort want offset x sort = if same_sort sort want then Ok x else refused offset WrongSort

-- what a name is as a value, and its sort; inputs says whether inputs may be used
abbrev pub value_named : Bool → ℕ → Option Meaning → Result (ExprView × Sort) Fault
value_named inputs offset None = refused offset UnknownName
value_named inputs offset (Some Later) = refused offset UnknownName
value_named inputs offset (Some (Symbol number arity predicate)) = refused offset WrongSort
value_named inputs offset (Some (Entry number sort)) = Ok (view.Entry number, sort)
value_named inputs offset (Some (Input number sort)) =
    if inputs then Ok (view.Input number, sort) else refused offset InputNotAllowed
value_named inputs offset (Some (Local number sort uses_input)) =
    if inputs || not uses_input then Ok (view.Local number, sort)
    else refused offset InputNotAllowed

-- true, false or a name
abbrev pub leaf_value : NameMap → Bool → Spot → Result (ExprView × Sort) Fault
leaf_value names inputs w =
    if same_text w.text (codes "true") then Ok (Truth true, sorts.Bool)
    else (if same_text w.text (codes "false") then Ok (Truth false, sorts.Bool)
    else value_named inputs w.offset (names w.text))

-- one of them, of the wanted sort
unfoldable pub typed_leaf : NameMap → Bool → Sort → Spot → Result ExprView Fault
typed_leaf names inputs want w = do
  value ← leaf_value names inputs w
  of_sort want w.offset value.0 value.1

-- the sort of an operator's value, where this one is wanted
abbrev pub operator_sort : operator.Operator → Sort → Sort
operator_sort Ite want = want
operator_sort Read want = sorts.Word
operator_sort Write want = sorts.Memory
operator_sort _ want = sorts.Bool

abbrev pub symbol_sort : Bool → Sort
symbol_sort predicate = if predicate then sorts.Bool else sorts.Word

-- the number of a function or predicate that takes so many parts, and the sort of its value
abbrev pub symbol_named : ℕ → ℕ → Option Meaning → Result (ℕ × Sort) Fault
symbol_named offset parts None = refused offset UnknownName
symbol_named offset parts (Some Later) = refused offset UnknownName
symbol_named offset parts (Some (Symbol number arity predicate)) =
    if arity == parts then Ok (number, symbol_sort predicate) else refused offset WrongArity
symbol_named offset parts (Some _) = refused offset WrongSort

-- what a list does with its parts
unfoldable pub operation : NameMap → Sort → ℕ → Spot → ℕ → Option operator.Operator → Result Operation Fault
operation names want offset head parts (Some operator) =
    of_sort want offset (Operator operator) (operator_sort operator want)
operation names want offset head parts None = do
  symbol ← symbol_named head.offset parts (names head.text)
  of_sort want offset (Apply symbol.0) symbol.1

-- the sort of a part, by its place from 0, where this sort is wanted of the whole
abbrev pub part_sort : Operation → Sort → ℕ → Sort
part_sort (Operator Equal) want place = sorts.Word
part_sort (Operator Ite) want place = if place == 0 then sorts.Bool else want
part_sort (Operator Read) want place = if place == 0 then sorts.Memory else sorts.Word
part_sort (Operator Write) want place = if place == 0 then sorts.Memory else sorts.Word
part_sort (Operator _) want place = sorts.Bool
part_sort (Apply number) want place = sorts.Word

-- an operator of one part; reading forms lets no other number of parts through
abbrev pub of_one_part : List ExprView → ExprView
of_one_part (a ∷ []) = view.Not a
of_one_part _ = Truth false

abbrev pub of_two : operator.Operator → ExprView → ExprView → ExprView
of_two Implies a b = view.Implies a b
of_two Iff a b = view.Iff a b
of_two Equal a b = view.Equal a b
of_two _ a b = view.Read a b

abbrev pub of_two_parts : operator.Operator → List ExprView → ExprView
of_two_parts operator (a ∷ b ∷ []) = of_two operator a b
of_two_parts operator _ = Truth false

abbrev pub of_three : operator.Operator → ExprView → ExprView → ExprView → ExprView
of_three Ite a b c = view.Ite a b c
of_three _ a b c = view.Write a b c

abbrev pub of_three_parts : operator.Operator → List ExprView → ExprView
of_three_parts operator (a ∷ b ∷ c ∷ []) = of_three operator a b c
of_three_parts operator _ = Truth false

-- the expression of an operation with its parts
abbrev pub built : Operation → List ExprView → ExprView
built (Operator Not) es = of_one_part es
built (Operator And) es = view.And (views_of_list es)
built (Operator Or) es = view.Or (views_of_list es)
built (Operator Implies) es = of_two_parts Implies es
built (Operator Iff) es = of_two_parts Iff es
built (Operator Equal) es = of_two_parts Equal es
built (Operator Ite) es = of_three_parts Ite es
built (Operator Read) es = of_two_parts Read es
built (Operator Write) es = of_three_parts Write es
built (Apply number) es = view.Apply number (views_of_list es)

abbrev mutual
  -- an expression of the wanted sort: first the list, and then its parts from left to right
  pub typed : NameMap → Bool → Sort → Expression → Result ExprView Fault
  typed names inputs want (leaf w) = typed_leaf names inputs want w
  typed names inputs want (application offset head parts) = do
    how ← operation names want offset head (expression_count parts) (operator_of head.text)
    es ← typed_parts names inputs how want 0 parts
    Ok (built how es)

  -- the parts from a place on
  pub typed_parts : NameMap → Bool → Operation → Sort → ℕ → Expressions → Result (List ExprView) Fault
  typed_parts names inputs how want place no_expressions = Ok []
  typed_parts names inputs how want place (expression e es) = do
    x ← typed names inputs (part_sort how want place) e
    xs ← typed_parts names inputs how want (place + 1) es
    Ok (x ∷ xs)
