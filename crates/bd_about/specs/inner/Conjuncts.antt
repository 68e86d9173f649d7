-- Conjuncts by their places.
use Rattle.std.specs.Prelude.{ℕ, zero, suc}
use Rattle.bd_model.specs.ExprView.{ExprView, ExprViews, And, expr, no_exprs}

-- the expression at a place, from 0, or another one past the last
abbrev pub expr_or : ExprViews → ℕ → ExprView → ExprView
expr_or no_exprs i other = other
expr_or (expr e es) zero other = e
expr_or (expr e es) (suc i) other = expr_or es i other

-- the conjunct at a place, or another expression where there is none
abbrev pub conjunct_or : ExprView → ℕ → ExprView → ExprView
conjunct_or (And es) i other = expr_or es i other
conjunct_or e i other = other
