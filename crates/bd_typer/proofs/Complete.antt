-- A form that says an expression of the wanted sort is accepted, as that expression.
use Rattle.std.proofs.Common.{◌≡◌, ℕ, ◌+◌, Bool, true, false, List, [], ◌∷◌, length, inl, inr, Option, Some, None, Result, Ok, refl, ap, sym, ◌∙◌, subst, arith}
use Rattle.std.specs.Prelude.{◌||◌, ◌==◌, not, slice_get, codes}
use Rattle.std.proofs.lemmas.Bool.Decides.{nat_tests}
use Rattle.bd_list.proofs.Truths.{neither}
use Rattle.bd_model.specs.ExprView.{ExprView, views_of_list, count_of}
use Rattle.bd_model.specs.ExprView as view
use Rattle.bd_model.specs.Fits.{result_sort}
use Rattle.bd_model.specs.Lawful.{Context, HasSort, HaveSort}
use Rattle.bd_model.specs.declared.design.Sort.{Sort}
use Rattle.bd_model.specs.declared.design.Sort.TheVariants as sorts
use Rattle.bd_syntax.specs.Words.{same_text, operator_of}
use Rattle.bd_syntax.specs.Forms.{Expression, leaf, application, Expressions, no_expressions, expression, expression_count}
use Rattle.bd_syntax.specs.declared.form.Spot.{Spot}
use Rattle.bd_syntax.specs.declared.operator.Operator as operator
use Rattle.bd_syntax.specs.declared.operator.Operator.TheVariants.{Not, And, Or, Implies, Iff, Equal, Ite, Read, Write}
use Rattle.bd_typer.specs.declared.names.Meaning.{Meaning}
use Rattle.bd_typer.specs.declared.names.Meaning.TheVariants.{Entry, Input, Symbol, Local, Later}
use Rattle.bd_typer.specs.declared.operation.Operation.{Operation}
use Rattle.bd_typer.specs.declared.operation.Operation.TheVariants.{Operator, Apply}
use Rattle.bd_typer.specs.Faults.{◌>>=◌}
use Rattle.bd_typer.specs.NameMap.{NameMap}
use Rattle.bd_typer.specs.Typing.{same_sort, of_sort, value_named, leaf_value, typed_leaf, operator_sort, symbol_sort, symbol_named, operation, part_sort, built, typed, typed_parts}
use Rattle.bd_typer.specs.Complete.{NameSays, LeafSays, OperatorMakes, HeadMakes, Says, SayAll, IsIn, AreIn, TypingComplete}
use Rattle.bd_typer.proofs.Lists.{some_is}

same_sort-same : (a : Sort) → same_sort a a ≡ true
same_sort-same sorts.Bool = refl
same_sort-same sorts.Word = refl
same_sort-same sorts.Memory = refl

of_sort-same : {A : Type 0} (want : Sort) (offset : ℕ) (x : A) (sort : Sort) → sort ≡ want → of_sort want offset x sort ≡ Ok x
of_sort-same want offset x sort is = rw (is, same_sort-same want) refl

-- a step that gives a value, before another
then_gives : {A B E : Type 0} (r : Result A E) (f : A → Result B E) (x : A) (y : Result B E) → r ≡ Ok x → f x ≡ y → (r >>= f) ≡ y
then_gives r f x y first second = rw first second

-- a let that uses an input only where inputs may be used
may_use : (inputs uses : Bool) → (uses ≡ true → inputs ≡ true) → (inputs || not uses) ≡ true
may_use true uses h = refl
may_use false false h = refl
may_use false true h = absurd (cc (h refl))

-- ---- words

named_gives : (c : Context) (inputs : Bool) (offset : ℕ) (m : Option Meaning) (e : ExprView) (want : Sort) → ((k : Meaning) → m ≡ Some k → IsIn c inputs k)
    → NameSays inputs m e → HasSort c e want → value_named inputs offset m ≡ Ok (e, want)
named_gives c inputs offset None e want there h s = absurd h
named_gives c inputs offset (Some Later) e want there h s = absurd h
named_gives c inputs offset (Some (Symbol n a p)) e want there h s = absurd h
named_gives c inputs offset (Some (Entry n sort)) e want there h s =
    let has : slice_get c.entries n ≡ Some want = subst (λ x. HasSort c x want) h s in
    let same : sort ≡ want = some_is sort want (sym (there (Entry n sort) refl) ∙ has) in
    rw (h, same) refl
named_gives c inputs offset (Some (Input n sort)) e want there h s =
    let has : slice_get c.inputs n ≡ Some want = subst (λ x. HasSort c x want) h.1 s in
    let same : sort ≡ want = some_is sort want (sym (there (Input n sort) refl h.0) ∙ has) in
    rw (h.0, h.1, same) refl
named_gives c inputs offset (Some (Local n sort uses)) e want there h s =
    let has : slice_get c.locals n ≡ Some want = subst (λ x. HasSort c x want) h.1 s in
    let same : sort ≡ want = some_is sort want (sym (there (Local n sort uses) refl) ∙ has) in
    rw (may_use inputs uses h.0, h.1, same) refl

leaf_gives : (c : Context) (names : NameMap) (inputs : Bool) (want : Sort) (w : Spot) (e : ExprView) → AreIn c inputs names → LeafSays names inputs w e → HasSort c e want → leaf_value names inputs w ≡ Ok (e, want)
leaf_gives c names inputs want w e there (inl p) s = let sort : want ≡ sorts.Bool = subst (λ x. HasSort c x want) p.1 s in rw (p.0, p.1, sort) refl
leaf_gives c names inputs want w e there (inr (inl p)) s = let sort : want ≡ sorts.Bool = subst (λ x. HasSort c x want) p.1 s in rw (p.0, p.1, sort) refl
leaf_gives c names inputs want w e there (inr (inr p)) s =
    let n = neither (same_text w.text (codes "true")) (same_text w.text (codes "false")) p.0 in
    rw (n.0, n.1) (named_gives c inputs w.offset (names w.text) e want (there w.text) p.1 s)

leaf_complete : (c : Context) (names : NameMap) (inputs : Bool) (want : Sort) (w : Spot) (e : ExprView) → AreIn c inputs names → LeafSays names inputs w e → HasSort c e want → typed_leaf names inputs want w ≡ Ok e
unfolding typed_leaf
leaf_complete c names inputs want w e there h s =
    then_gives (leaf_value names inputs w) (λ v. of_sort want w.offset v.0 v.1) (e, want) (Ok e) (leaf_gives c names inputs want w e there h s) (of_sort-same want w.offset e want refl)

-- ---- lists

-- parts have the sorts that are wanted of their places
abbrev pub HaveSorts : Context → (ℕ → Sort) → ℕ → List ExprView → Type 0
HaveSorts c want place [] = Unit {0}
HaveSorts c want place (e ∷ es) = HasSort c e (want place) × HaveSorts c want (place + 1) es

pub all_sorts : (c : Context) (s : Sort) (place : ℕ) (es : List ExprView) → HaveSort c (views_of_list es) s → HaveSorts c (λ n. s) place es
all_sorts c s place [] h = tt
all_sorts c s place (e ∷ es) h = (h.0, all_sorts c s (place + 1) es h.1)

pub count_is : (es : List ExprView) → count_of (views_of_list es) ≡ length es
count_is [] = refl
count_is (e ∷ es) = omega (arith, count_is es)

-- what a list does with its parts, where it says e of them
record Goes (c : Context) (names : NameMap) (want : Sort) (offset : ℕ) (head : Spot) (op : Option operator.Operator) (es : List ExprView) (e : ExprView) : Type 0 where
  how : Operation
  is : operation names want offset head (length es) op ≡ Ok how
  parts : HaveSorts c (part_sort how want) 0 es
  whole : built how es ≡ e

module _ (c : Context) (names : NameMap) (want : Sort) (offset : ℕ) (head : Spot) where
  of_operator : (op : operator.Operator) (es : List ExprView) (e : ExprView) → operator_sort op want ≡ want → HaveSorts c (part_sort (Operator op) want) 0 es → built (Operator op) es ≡ e
      → Goes c names want offset head (Some op) es e
  unfolding operation
  of_operator op es e sort parts whole = record { how = Operator op; is = of_sort-same want offset (Operator op) (operator_sort op want) sort; parts = parts; whole = whole }

  sorted : (x e : ExprView) → e ≡ x → HasSort c e want → HasSort c x want
  sorted x e is s = subst (λ y. HasSort c y want) is s

  operator_goes : (op : operator.Operator) (es : List ExprView) (e : ExprView) → OperatorMakes op es e → HasSort c e want → Goes c names want offset head (Some op) es e
  operator_goes Not (a ∷ []) e h s = let t = sorted (view.Not a) e h s in of_operator Not (a ∷ []) e (sym t.0) (t.1, tt) (sym h)
  operator_goes And es e h s = let t = sorted (view.And (views_of_list es)) e h s in of_operator And es e (sym t.0) (all_sorts c sorts.Bool 0 es t.2) (sym h)
  operator_goes Or es e h s = let t = sorted (view.Or (views_of_list es)) e h s in of_operator Or es e (sym t.0) (all_sorts c sorts.Bool 0 es t.2) (sym h)
  operator_goes Implies (a ∷ b ∷ []) e h s = let t = sorted (view.Implies a b) e h s in of_operator Implies (a ∷ b ∷ []) e (sym t.0) (t.1, (t.2, tt)) (sym h)
  operator_goes Iff (a ∷ b ∷ []) e h s = let t = sorted (view.Iff a b) e h s in of_operator Iff (a ∷ b ∷ []) e (sym t.0) (t.1, (t.2, tt)) (sym h)
  operator_goes Equal (a ∷ b ∷ []) e h s = let t = sorted (view.Equal a b) e h s in of_operator Equal (a ∷ b ∷ []) e (sym t.0) (t.1, (t.2, tt)) (sym h)
  operator_goes Ite (p ∷ a ∷ b ∷ []) e h s = let t = sorted (view.Ite p a b) e h s in of_operator Ite (p ∷ a ∷ b ∷ []) e refl (t.0, (t.1, (t.2, tt))) (sym h)
  operator_goes Read (m ∷ a ∷ []) e h s = let t = sorted (view.Read m a) e h s in of_operator Read (m ∷ a ∷ []) e (sym t.0) (t.1, (t.2, tt)) (sym h)
  operator_goes Write (m ∷ a ∷ d ∷ []) e h s = let t = sorted (view.Write m a d) e h s in of_operator Write (m ∷ a ∷ d ∷ []) e (sym t.0) (t.1, (t.2, (t.3, tt))) (sym h)
  operator_goes _ es e h s = absurd h

  -- a symbol that takes so many parts
  symbol_goes : (inputs : Bool) (m : Option Meaning) (es : List ExprView) (e : ExprView) → names head.text ≡ m → ((k : Meaning) → m ≡ Some k → IsIn c inputs k) → HeadMakes None m es e → HasSort c e want
      → Goes c names want offset head None es e
  unfolding operation
  symbol_goes inputs None es e is there h s = absurd h
  symbol_goes inputs (Some Later) es e is there h s = absurd h
  symbol_goes inputs (Some (Entry n a)) es e is there h s = absurd h
  symbol_goes inputs (Some (Input n a)) es e is there h s = absurd h
  symbol_goes inputs (Some (Local n a u)) es e is there h s = absurd h
  symbol_goes inputs (Some (Symbol n a p)) es e is there h s =
      let t = sorted (view.Apply n (views_of_list es)) e h.1 s in
      let f = there (Symbol n a p) refl in
      let same : t.0.0 ≡ f.0 = some_is t.0.0 f.0 (sym t.0.1 ∙ f.1) in
      let sort : symbol_sort p ≡ want = ap symbol_sort (sym f.3) ∙ ap result_sort (sym same) ∙ sym t.0.2 in
      let takes : (a == length es) ≡ true = grind (arith, nat_tests, h.0) in
      record {
        how = Apply n;
        is = then_gives (symbol_named head.offset (length es) (names head.text)) (λ symbol. of_sort want offset (Apply symbol.0) symbol.1) (n, symbol_sort p) (Ok (Apply n))
            (rw (is, takes) refl) (of_sort-same want offset (Apply n) (symbol_sort p) sort);
        parts = all_sorts c sorts.Word 0 es t.1;
        whole = sym h.1;
      }

  head_goes : (inputs : Bool) (op : Option operator.Operator) (es : List ExprView) (e : ExprView) → AreIn c inputs names → HeadMakes op (names head.text) es e → HasSort c e want → Goes c names want offset head op es e
  head_goes inputs (Some op) es e there h s = operator_goes op es e h s
  head_goes inputs None es e there h s = symbol_goes inputs (names head.text) es e refl (there head.text) h s

-- as many expressions as forms
pub as_many : (names : NameMap) (inputs : Bool) (forms : Expressions) (es : List ExprView) → SayAll names inputs forms es → expression_count forms ≡ length es
as_many names inputs no_expressions [] h = refl
as_many names inputs no_expressions (e ∷ es) h = absurd h
as_many names inputs (expression form forms) [] h = absurd h
as_many names inputs (expression form forms) (e ∷ es) h = omega (arith, as_many names inputs forms es h.1)

mutual
  form_complete : (c : Context) (names : NameMap) (inputs : Bool) (want : Sort) (form : Expression) (e : ExprView) → AreIn c inputs names → Says names inputs form e → HasSort c e want → typed names inputs want form ≡ Ok e
  form_complete c names inputs want (leaf w) e there h s = leaf_complete c names inputs want w e there h s
  form_complete c names inputs want (application offset head parts) e there h s =
      let goes = head_goes c names want offset head inputs (operator_of head.text) h.0 e there h.2 s in
      let first : operation names want offset head (expression_count parts) (operator_of head.text) ≡ Ok goes.how = rw (as_many names inputs parts h.0 h.1) goes.is in
      let second : typed_parts names inputs goes.how want 0 parts ≡ Ok h.0 = parts_complete c names inputs goes.how want 0 parts h.0 there h.1 goes.parts in
      then_gives _ (λ how. typed_parts names inputs how want 0 parts >>= λ es. Ok (built how es)) goes.how (Ok e) first
      (then_gives _ (λ es. Ok (built goes.how es)) h.0 (Ok e) second (ap Ok goes.whole))

  parts_complete : (c : Context) (names : NameMap) (inputs : Bool) (how : Operation) (want : Sort) (place : ℕ) (forms : Expressions) (es : List ExprView) → AreIn c inputs names → SayAll names inputs forms es
      → HaveSorts c (part_sort how want) place es → typed_parts names inputs how want place forms ≡ Ok es
  parts_complete c names inputs how want place no_expressions [] there h s = refl
  parts_complete c names inputs how want place no_expressions (e ∷ es) there h s = absurd h
  parts_complete c names inputs how want place (expression form forms) [] there h s = absurd h
  parts_complete c names inputs how want place (expression form forms) (e ∷ es) there h s =
      let first : typed names inputs (part_sort how want place) form ≡ Ok e = form_complete c names inputs (part_sort how want place) form e there h.0 s.0 in
      let rest : typed_parts names inputs how want (place + 1) forms ≡ Ok es = parts_complete c names inputs how want (place + 1) forms es there h.1 s.1 in
      then_gives _ (λ x. typed_parts names inputs how want (place + 1) forms >>= λ xs. Ok (x ∷ xs)) e (Ok (e ∷ es)) first
      (then_gives _ (λ xs. Ok (e ∷ xs)) es (Ok (e ∷ es)) rest refl)

pub typing_complete : TypingComplete
typing_complete = form_complete
