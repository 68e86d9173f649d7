-- What is marked after one thing more, and after parts.
use Rattle.std.proofs.Common.{◌≡◌, Bool, true, false, List, [], ◌∷◌, ◌++◌, refl, sym, ◌∙◌, ap}
use Rattle.std.specs.Prelude.{◌||◌, Result, OnOk}
use Rattle.std.proofs.lemmas.Result.{on_ok_weaker}
use Rattle.bd_model.specs.ExprView.{ExprView, ExprViews, no_exprs, expr, expr_view, list_of_views}
use Rattle.bd_model.specs.declared.expr.Expr.{Expr}
use Rattle.bd_about.specs.Named.{any_names, any_of, names}
use Rattle.bd_about.specs.Marked.{Adds, is_marked}
use Rattle.bd_about.specs.inner.Marking.{AreMarked}
use Rattle.bd_about.specs.declared.named.Named.{Named}
use Rattle.bd_about.specs.declared.marks.NameMarks.{NameMarks}
use Rattle.bd_list.proofs.Truths.{or_assoc}

pub or_false : (b : Bool) → (b || false) ≡ b
or_false true = refl
or_false false = refl

pub adds_both : (a b c : NameMarks) (p q : Named → Bool) → Adds a b p → Adds b c q → Adds a c (λ x. p x || q x)
adds_both a b c p q h k = record { each = λ x. k.each x ∙ ap (λ y. y || q x) (h.each x) ∙ or_assoc (is_marked a x) (p x) (q x) }

-- part of what is to be marked is left
pub record Left (first now : NameMarks) (rest all : Named → Bool) : Type 0 where
  pub each : (x : Named) → (is_marked now x || rest x) ≡ (is_marked first x || all x)

-- two parts of an expression, one after the other
pub both_of : {T E : Type 0} (r : Result T E) (old mid new : NameMarks) (e a b u v : Expr)
    → ((x : Named) → names x (expr_view e) ≡ (names x (expr_view a) || names x (expr_view b))) → u ≡ a → v ≡ b
    → Adds old mid (λ x. names x (expr_view u)) → OnOk r (Adds mid new (λ x. names x (expr_view v))) → OnOk r (Adds old new (λ x. names x (expr_view e)))
both_of r old mid new e a b u v parts is_a is_b first second =
    on_ok_weaker r
    (λ (k : Adds mid new (λ x. names x (expr_view v))). record {
      each = λ x. (adds_both old mid new (λ y. names y (expr_view u)) (λ y. names y (expr_view v)) first k).each x
          ∙ ap (λ t. is_marked old x || (names x (expr_view t) || names x (expr_view v))) is_a
          ∙ ap (λ t. is_marked old x || (names x (expr_view a) || names x (expr_view t))) is_b
          ∙ ap (λ t. is_marked old x || t) (sym (parts x));
    })
    second

-- three parts
pub three_of : {T E : Type 0} (r : Result T E) (old mid next new : NameMarks) (e a b d u v w : Expr)
    → ((x : Named) → names x (expr_view e) ≡ ((names x (expr_view a) || names x (expr_view b)) || names x (expr_view d))) → u ≡ a → v ≡ b → w ≡ d
    → Adds old mid (λ x. names x (expr_view u)) → Adds mid next (λ x. names x (expr_view v)) → OnOk r (Adds next new (λ x. names x (expr_view w))) → OnOk r (Adds old new (λ x. names x (expr_view e)))
three_of r old mid next new e a b d u v w parts is_a is_b is_d first second third =
    on_ok_weaker r
    (λ (k : Adds next new (λ x. names x (expr_view w))). record {
      each = λ x.
          (adds_both old next new (λ y. names y (expr_view u) || names y (expr_view v)) (λ y. names y (expr_view w)) (adds_both old mid next (λ y. names y (expr_view u)) (λ y. names y (expr_view v)) first second) k).each x
          ∙ ap (λ t. is_marked old x || ((names x (expr_view t) || names x (expr_view v)) || names x (expr_view w))) is_a
          ∙ ap (λ t. is_marked old x || ((names x (expr_view a) || names x (expr_view t)) || names x (expr_view w))) is_b
          ∙ ap (λ t. is_marked old x || ((names x (expr_view a) || names x (expr_view b)) || names x (expr_view t))) is_d
          ∙ ap (λ t. is_marked old x || t) (sym (parts x));
    })
    third

any_of-append : (x : Named) (es fs : List ExprView) → any_of x (es ++ fs) ≡ (any_of x es || any_of x fs)
any_of-append x [] fs = refl
any_of-append x (e ∷ es) fs = ap (λ b. names x e || b) (any_of-append x es fs) ∙ sym (or_assoc (names x e) (any_of x es) (any_of x fs))

pub any_of-views : (x : Named) (es : ExprViews) → any_of x (list_of_views es) ≡ any_names x es
any_of-views x no_exprs = refl
any_of-views x (expr e es) = ap (λ b. names x e || b) (any_of-views x es)

-- where nothing was marked, what the lists name is marked
pub marked_roots : (a b c d e : NameMarks) (es : ExprViews) (fs gs hs : List ExprView) → ((x : Named) → is_marked a x ≡ false) → Adds a b (λ x. any_names x es) → Adds b c (λ x. any_of x fs)
    → Adds c d (λ x. any_of x gs) → Adds d e (λ x. any_of x hs) → AreMarked (((list_of_views es ++ fs) ++ gs) ++ hs) e
marked_roots a b c d e es fs gs hs none first second third fourth = record {
  each = λ x.
      fourth.each x
      ∙ ap (λ t. t || any_of x hs) (third.each x ∙ ap (λ t. t || any_of x gs) (second.each x ∙ ap (λ t. t || any_of x fs) (first.each x ∙ ap (λ t. t || any_names x es) (none x) ∙ sym (any_of-views x es))
      ∙ sym (any_of-append x (list_of_views es) fs)) ∙ sym (any_of-append x (list_of_views es ++ fs) gs))
      ∙ sym (any_of-append x ((list_of_views es ++ fs) ++ gs) hs);
}

-- the same of one list, and of one expression
pub marked_list : (a b : NameMarks) (es : ExprViews) → ((x : Named) → is_marked a x ≡ false) → Adds a b (λ x. any_names x es) → AreMarked (list_of_views es) b
marked_list a b es none first = record { each = λ x. first.each x ∙ ap (λ t. t || any_names x es) (none x) ∙ sym (any_of-views x es) }

pub marked_one : (a b : NameMarks) (e : ExprView) → ((x : Named) → is_marked a x ≡ false) → Adds a b (λ x. names x e) → AreMarked (e ∷ []) b
marked_one a b e none first = record { each = λ x. first.each x ∙ ap (λ t. t || names x e) (none x) ∙ sym (or_false (names x e)) }
