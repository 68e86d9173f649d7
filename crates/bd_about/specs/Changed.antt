-- A design with one thing changed, of which a question is asked.
use Rattle.std.specs.Prelude.{ℕ, zero, suc, ◌+◌, ◌-◌, true, [], ◌∷◌, ◌++◌}
use Rattle.bd_model.specs.DesignView.{DesignView}
use Rattle.bd_model.specs.ExprView.{ExprView, ExprViews, And, Truth, count_of, expr, no_exprs}

-- one flush cycle less
abbrev pub less_flushed : DesignView → DesignView
less_flushed d = record d { flush = d.flush - 1 }

-- one flush cycle more
abbrev pub more_flushed : DesignView → DesignView
more_flushed d = record d { flush = d.flush + 1 }

-- a cycle may stand for one step more
abbrev pub more_steps : DesignView → DesignView
more_steps d = record d { steps = d.steps + 1 }

-- the invariant is `true`
abbrev pub without_invariant : DesignView → DesignView
without_invariant d = record d { inv_locals = []; inv = Truth true }

-- the conjuncts of an expression: the parts of an `and`
abbrev pub conjunct_count : ExprView → ℕ
conjunct_count (And es) = count_of es
conjunct_count _ = 0

-- expressions with another one at a place, from 0
abbrev pub exprs_with : ExprViews → ℕ → ExprView → ExprViews
exprs_with no_exprs i part = no_exprs
exprs_with (expr e es) zero part = expr part es
exprs_with (expr e es) (suc i) part = expr e (exprs_with es i part)

-- with another conjunct at a place, from 0
abbrev pub with_conjunct : ExprView → ℕ → ExprView → ExprView
with_conjunct (And es) i part = And (exprs_with es i part)
with_conjunct e i part = e

-- the conjunct of the invariant at this place, from 0, is `true`
abbrev pub without_conjunct : DesignView → ℕ → DesignView
without_conjunct d i = record d { inv = with_conjunct d.inv i (Truth true) }

-- with the item `(exact 0 true)` too: each cycle has to stand for 0 steps
abbrev pub without_steps : DesignView → DesignView
without_steps d = record d { exact = d.exact ++ record { count = 0; when = Truth true } ∷ [] }
