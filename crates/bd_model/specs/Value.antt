-- The value of an expression: the logic of equality with uninterpreted functions and memories
-- (Burch and Dill 1994), over finite tables. The cases that no lawful design has give false, 0 or the memory
-- of zeros.
use Rattle.std.specs.Prelude.{ℕ, Bool, false, not, ◌||◌, ◌==◌, List, [], ◌∷◌, map, slice_index_or, if◌then◌else◌}
use Rattle.std.specs.List.{list_all, list_any}
use mathlib.Core.Bool.{beq}
use Rattle.bd_list.specs.Grown.{grown}
use Rattle.bd_model.specs.ExprView.{ExprView, ExprViews, Truth, Entry, Input, Local, Not, And, Or, Implies, Iff, Equal, Ite, Read, Write, Apply, no_exprs, expr}
use Rattle.bd_model.specs.Table.{at, read, write}
use Rattle.bd_model.specs.DesignView.{LocalView}
use Rattle.bd_model.specs.declared.table.Scalar.{Scalar}
use Rattle.bd_model.specs.declared.table.Scalar.TheVariants as scalar
use Rattle.bd_model.specs.declared.table.Row.{Row}
use Rattle.bd_model.specs.declared.table.Slot.{Slot}
use Rattle.bd_model.specs.declared.table.Table.{Table}
use Rattle.bd_model.specs.declared.table.Memory.{Memory}
use Rattle.bd_model.specs.declared.table.Value.{Value}
use Rattle.bd_model.specs.declared.table.Value.TheVariants as value

-- what names stand for where an expression is valued
pub record Env : Type 0 where
  pub interp : List Table
  pub state : List Value
  pub inputs : List Scalar
  pub locals : List Value

abbrev pub truth : Bool → Value
truth b = value.Scalar (scalar.Bool b)

abbrev pub word : ℕ → Value
word n = value.Scalar (scalar.Word n)

abbrev pub scalar_of : Value → Scalar
scalar_of (value.Scalar x) = x
scalar_of (value.Memory m) = scalar.Bool false

abbrev pub scalar_truth : Scalar → Bool
scalar_truth (scalar.Bool b) = b
scalar_truth (scalar.Word n) = false

abbrev pub scalar_word : Scalar → ℕ
scalar_word (scalar.Bool b) = 0
scalar_word (scalar.Word n) = n

-- the row of a memory that a table's row stands for: its first argument is the address
abbrev pub slot_of : Row → Slot
slot_of row = record { address = slice_index_or row.args 0 0; value = scalar_word row.value }

abbrev pub is_true : Value → Bool
is_true v = scalar_truth (scalar_of v)

abbrev pub word_of : Value → ℕ
word_of v = scalar_word (scalar_of v)

abbrev pub memory_of : Value → Memory
memory_of (value.Scalar x) = record { default = 0; rows = [] }
memory_of (value.Memory m) = m

abbrev pub no_table : Table
no_table = record { default = scalar.Bool false; rows = [] }

abbrev pub table_of : List Table → ℕ → Table
table_of interp f = slice_index_or interp f no_table

abbrev mutual
  -- the value of an expression
  pub value_of : Env → ExprView → Value
  value_of env (Truth b) = truth b
  value_of env (Entry i) = slice_index_or env.state i (truth false)
  value_of env (Input i) = value.Scalar (slice_index_or env.inputs i (scalar.Bool false))
  value_of env (Local i) = slice_index_or env.locals i (truth false)
  value_of env (Not e) = truth (not (is_true (value_of env e)))
  value_of env (And es) = truth (list_all is_true (values_of env es))
  value_of env (Or es) = truth (list_any is_true (values_of env es))
  value_of env (Implies a b) = truth (not (is_true (value_of env a)) || is_true (value_of env b))
  value_of env (Iff a b) = truth (beq (is_true (value_of env a)) (is_true (value_of env b)))
  value_of env (Equal a b) = truth (word_of (value_of env a) == word_of (value_of env b))
  value_of env (Ite p a b) = if is_true (value_of env p) then value_of env a else value_of env b
  value_of env (Read m a) = word (read (memory_of (value_of env m)) (word_of (value_of env a)))
  value_of env (Write m a d) =
      let address = word_of (value_of env a) in
      value.Memory (write (memory_of (value_of env m)) address (word_of (value_of env d)))
  value_of env (Apply f es) =
      value.Scalar (at (table_of env.interp f) (map word_of (values_of env es)))

  -- the values of expressions, in order
  pub values_of : Env → ExprViews → List Value
  values_of env no_exprs = []
  values_of env (expr e es) = value_of env e ∷ values_of env es

-- the value of a let where the earlier ones have these values
abbrev pub let_value : List Table → List Value → List Scalar → List Value → LocalView → Value
let_value interp state inputs earlier l =
    value_of (record { interp = interp; state = state; inputs = inputs; locals = earlier }) l.value

-- the values of lets, each from the values of the earlier ones, in the same interpretation, state and inputs
abbrev pub let_values : List Table → List Value → List Scalar → List LocalView → List Value
let_values interp state inputs locals = grown (let_value interp state inputs) [] locals

-- where a machine's expressions are valued
abbrev pub env_of : List LocalView → List Table → List Value → List Scalar → Env
env_of locals interp state inputs =
    let values = let_values interp state inputs locals in
    record { interp = interp; state = state; inputs = inputs; locals = values }
