-- What a form says with its names resolved and no sort looked at, and that it is accepted just where this has the
-- wanted sort. The language is this project's own.
use Rattle.std.specs.Prelude.{◌≡◌, ℕ, ◌⊎◌, Bool, true, false, List, [], ◌∷◌, length, Option, Some, None, Ok, codes, slice_get}
use Rattle.bd_model.specs.ExprView.{ExprView, Truth, views_of_list}
use Rattle.bd_model.specs.ExprView as view
use Rattle.bd_model.specs.Lawful.{Context, HasSort}
use Rattle.bd_model.specs.declared.design.Sort.{Sort}
use Rattle.bd_model.specs.declared.design.Symbol as symbol
use Rattle.bd_syntax.specs.Words.{is_truth, operator_of}
use Rattle.bd_syntax.specs.Forms.{Expression, leaf, application, Expressions, no_expressions, expression}
use Rattle.bd_syntax.specs.WellFormed.{IsExpression}
use Rattle.bd_syntax.specs.declared.form.Spot.{Spot}
use Rattle.bd_syntax.specs.declared.operator.Operator as operator
use Rattle.bd_syntax.specs.declared.operator.Operator.TheVariants.{Not, And, Or, Implies, Iff, Equal, Ite, Read, Write}
use Rattle.bd_typer.specs.declared.names.Meaning.{Meaning}
use Rattle.bd_typer.specs.declared.names.Meaning.TheVariants.{Entry, Input, Symbol, Local, Later}
use Rattle.bd_typer.specs.NameMap.{NameMap}
use Rattle.bd_typer.specs.Typing.{typed}

-- ---- what a form says

-- the value that a name means: an input, also through a let, only where inputs may be used
abbrev pub NameSays : Bool → Option Meaning → ExprView → Type 0
NameSays inputs (Some (Entry number sort)) e = e ≡ view.Entry number
NameSays inputs (Some (Input number sort)) e = (inputs ≡ true) × (e ≡ view.Input number)
NameSays inputs (Some (Local number sort uses_input)) e =
    (uses_input ≡ true → inputs ≡ true) × (e ≡ view.Local number)
NameSays inputs _ e = ⊥

-- true, false, or another name
abbrev pub LeafSays : NameMap → Bool → Spot → ExprView → Type 0
LeafSays names inputs w e =
    ((w.text ≡ codes "true") × (e ≡ Truth true))
    ⊎ (((w.text ≡ codes "false") × (e ≡ Truth false))
    ⊎ ((is_truth w.text ≡ false) × NameSays inputs (names w.text) e))

-- what an operator makes of its parts, of which `and` and `or` may have any number
abbrev pub OperatorMakes : operator.Operator → List ExprView → ExprView → Type 0
OperatorMakes Not (a ∷ []) e = e ≡ view.Not a
OperatorMakes And es e = e ≡ view.And (views_of_list es)
OperatorMakes Or es e = e ≡ view.Or (views_of_list es)
OperatorMakes Implies (a ∷ b ∷ []) e = e ≡ view.Implies a b
OperatorMakes Iff (a ∷ b ∷ []) e = e ≡ view.Iff a b
OperatorMakes Equal (a ∷ b ∷ []) e = e ≡ view.Equal a b
OperatorMakes Ite (p ∷ a ∷ b ∷ []) e = e ≡ view.Ite p a b
OperatorMakes Read (m ∷ a ∷ []) e = e ≡ view.Read m a
OperatorMakes Write (m ∷ a ∷ d ∷ []) e = e ≡ view.Write m a d
OperatorMakes _ es e = ⊥

-- what a list's first word makes of the parts: an operator, or else a function or predicate of so many arguments
abbrev pub HeadMakes : Option operator.Operator → Option Meaning → List ExprView → ExprView → Type 0
HeadMakes (Some operator) meaning es e = OperatorMakes operator es e
HeadMakes None (Some (Symbol number arity predicate)) es e =
    (length es ≡ arity) × (e ≡ view.Apply number (views_of_list es))
HeadMakes None _ es e = ⊥

abbrev mutual
  -- a form says an expression, whatever the sorts of its parts
  pub Says : NameMap → Bool → Expression → ExprView → Type 0
  Says names inputs (leaf w) e = LeafSays names inputs w e
  Says names inputs (application offset head parts) e =
      (es : List ExprView) × SayAll names inputs parts es
      × HeadMakes (operator_of head.text) (names head.text) es e

  -- forms say expressions, one each
  pub SayAll : NameMap → Bool → Expressions → List ExprView → Type 0
  SayAll names inputs no_expressions [] = Unit {0}
  SayAll names inputs (expression form forms) (e ∷ es) =
      Says names inputs form e × SayAll names inputs forms es
  SayAll names inputs _ _ = ⊥

-- ---- which forms are accepted

-- what a name means is in the context, with its sort, or its arity and whether it is a predicate: an input only
-- where inputs may be used
abbrev pub IsIn : Context → Bool → Meaning → Type 0
IsIn c inputs (Entry number sort) = slice_get c.entries number ≡ Some sort
IsIn c inputs (Input number sort) = inputs ≡ true → slice_get c.inputs number ≡ Some sort
IsIn c inputs (Symbol number arity predicate) =
    (y : symbol.Symbol) × (slice_get c.symbols number ≡ Some y)
    × (y.arity ≡ arity) × (y.predicate ≡ predicate)
IsIn c inputs (Local number sort uses_input) = slice_get c.locals number ≡ Some sort
IsIn c inputs Later = Unit {0}

-- so are all names
abbrev pub AreIn : Context → Bool → NameMap → Type 0
AreIn c inputs names = (text : List ℕ) (m : Meaning) → names text ≡ Some m → IsIn c inputs m

-- a form that says an expression of the wanted sort is accepted, as that expression
abbrev pub TypingComplete : Type 0
TypingComplete =
    (c : Context) (names : NameMap) (inputs : Bool) (want : Sort) (form : Expression) (e : ExprView) →
    AreIn c inputs names → Says names inputs form e → HasSort c e want →
    typed names inputs want form ≡ Ok e

-- and what is accepted of a form without a fault of its own is what it says, and has the wanted sort
abbrev pub TypingSound : Type 0
TypingSound =
    (c : Context) (names : NameMap) (inputs : Bool) (want : Sort) (form : Expression) (e : ExprView) →
    AreIn c inputs names → IsExpression form → typed names inputs want form ≡ Ok e →
    Says names inputs form e × HasSort c e want
