-- What an expression names.
use Rattle.std.specs.Prelude.{◌==◌, ◌||◌, Bool, false, List, [], ◌∷◌}
use Rattle.bd_model.specs.ExprView.{ExprView, ExprViews, Truth, Entry, Input, Local, Not, And, Or, Implies, Iff, Equal, Ite, Read, Write, Apply, no_exprs, expr}
use Rattle.bd_about.specs.declared.named.Named.{Named}
use Rattle.bd_about.specs.declared.named.Named.TheVariants as named

-- whether two things are the same
abbrev pub is_same : Named → Named → Bool
is_same (named.Entry i) (named.Entry j) = i == j
is_same (named.Input i) (named.Input j) = i == j
is_same (named.Local i) (named.Local j) = i == j
is_same (named.Symbol i) (named.Symbol j) = i == j
is_same x y = false

-- whether an expression names a thing
abbrev mutual
  pub names : Named → ExprView → Bool
  names x (Truth b) = false
  names x (Entry i) = is_same (named.Entry i) x
  names x (Input i) = is_same (named.Input i) x
  names x (Local i) = is_same (named.Local i) x
  names x (Not a) = names x a
  names x (And es) = any_names x es
  names x (Or es) = any_names x es
  names x (Implies a b) = names x a || names x b
  names x (Iff a b) = names x a || names x b
  names x (Equal a b) = names x a || names x b
  names x (Ite p a b) = (names x p || names x a) || names x b
  names x (Read m a) = names x m || names x a
  names x (Write m a d) = (names x m || names x a) || names x d
  names x (Apply f es) = is_same (named.Symbol f) x || any_names x es

  pub any_names : Named → ExprViews → Bool
  any_names x no_exprs = false
  any_names x (expr e es) = names x e || any_names x es

-- whether one of the expressions does
abbrev pub any_of : Named → List ExprView → Bool
any_of x [] = false
any_of x (e ∷ es) = names x e || any_of x es
