-- Expressions as clauses see them, without pointers and capacities.
use Rattle.std.specs.Prelude.{ℕ, Bool, List, [], ◌∷◌, suc, max}
use Rattle.bd_model.specs.declared.expr.Expr.{Expr, fold-Expr}
use Rattle.bd_model.specs.declared.expr.Exprs.{Exprs, fold-Exprs}
use Rattle.bd_model.specs.declared.expr.Expr.TheOpen.{Expr-F, Exprs-F}

mutual
  pub data ExprView : Type 0 where
    Truth : Bool → ExprView
    Entry : ℕ → ExprView
    Input : ℕ → ExprView
    Local : ℕ → ExprView
    Not : ExprView → ExprView
    And : ExprViews → ExprView
    Or : ExprViews → ExprView
    Implies : ExprView → ExprView → ExprView
    Iff : ExprView → ExprView → ExprView
    Equal : ExprView → ExprView → ExprView
    Ite : ExprView → ExprView → ExprView → ExprView
    Read : ExprView → ExprView → ExprView
    Write : ExprView → ExprView → ExprView → ExprView
    Apply : ℕ → ExprViews → ExprView

  pub data ExprViews : Type 0 where
    no_exprs : ExprViews
    expr : ExprView → ExprViews → ExprViews

-- the views of a list, one after another
abbrev pub views_of_list : List ExprView → ExprViews
views_of_list [] = no_exprs
views_of_list (e ∷ es) = expr e (views_of_list es)

abbrev pub list_of_views : ExprViews → List ExprView
list_of_views no_exprs = []
list_of_views (expr e es) = e ∷ list_of_views es

-- one level of an expression, with each part already seen
abbrev pub view_step : Expr-F ExprView ExprViews → ExprView
view_step (Expr-F.Bool b) = Truth b
view_step (Expr-F.Entry i) = Entry i
view_step (Expr-F.Input i) = Input i
view_step (Expr-F.Local i) = Local i
view_step (Expr-F.Not a) = Not a.value
view_step (Expr-F.And es) = And es
view_step (Expr-F.Or es) = Or es
view_step (Expr-F.Implies a b) = Implies a.value b.value
view_step (Expr-F.Iff a b) = Iff a.value b.value
view_step (Expr-F.Equal a b) = Equal a.value b.value
view_step (Expr-F.Ite p a b) = Ite p.value a.value b.value
view_step (Expr-F.Read m a) = Read m.value a.value
view_step (Expr-F.Write m a d) = Write m.value a.value d.value
view_step (Expr-F.Apply f es) = Apply f es

abbrev pub views_step : Exprs-F ExprView ExprViews → ExprViews
views_step xs = views_of_list xs.items.items

-- an expression as clauses see it
abbrev pub expr_view : Expr → ExprView
expr_view = fold-Expr ExprView ExprViews view_step views_step

-- a list of expressions as clauses see it
abbrev pub expr_views : Exprs → ExprViews
expr_views = fold-Exprs ExprView ExprViews view_step views_step

abbrev pub count_of : ExprViews → ℕ
count_of no_exprs = 0
count_of (expr e es) = suc (count_of es)

-- how deep operators and applications nest
abbrev mutual
  pub depth : ExprView → ℕ
  depth (Truth b) = 0
  depth (Entry i) = 0
  depth (Input i) = 0
  depth (Local i) = 0
  depth (Not e) = suc (depth e)
  depth (And es) = suc (exprs_depth es)
  depth (Or es) = suc (exprs_depth es)
  depth (Implies a b) = suc (max (depth a) (depth b))
  depth (Iff a b) = suc (max (depth a) (depth b))
  depth (Equal a b) = suc (max (depth a) (depth b))
  depth (Ite p a b) = suc (max (depth p) (max (depth a) (depth b)))
  depth (Read m a) = suc (max (depth m) (depth a))
  depth (Write m a d) = suc (max (depth m) (max (depth a) (depth d)))
  depth (Apply f es) = suc (exprs_depth es)

  pub exprs_depth : ExprViews → ℕ
  exprs_depth no_exprs = 0
  exprs_depth (expr e es) = max (depth e) (exprs_depth es)

-- the length of the longest list of parts
abbrev mutual
  pub width : ExprView → ℕ
  width (Truth b) = 0
  width (Entry i) = 0
  width (Input i) = 0
  width (Local i) = 0
  width (Not e) = width e
  width (And es) = max (count_of es) (exprs_width es)
  width (Or es) = max (count_of es) (exprs_width es)
  width (Implies a b) = max (width a) (width b)
  width (Iff a b) = max (width a) (width b)
  width (Equal a b) = max (width a) (width b)
  width (Ite p a b) = max (width p) (max (width a) (width b))
  width (Read m a) = max (width m) (width a)
  width (Write m a d) = max (width m) (max (width a) (width d))
  width (Apply f es) = max (count_of es) (exprs_width es)

  pub exprs_width : ExprViews → ℕ
  exprs_width no_exprs = 0
  exprs_width (expr e es) = max (width e) (exprs_width es)
