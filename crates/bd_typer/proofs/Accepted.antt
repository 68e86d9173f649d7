-- What is accepted of a form is what it says, and has the wanted sort.
use Rattle.std.proofs.Common.{◌≡◌, ℕ, ◌+◌, Bool, true, false, cond, List, [], ◌∷◌, length, inl, inr, Option, Some, None, Ok, refl, ap, sym, ◌∙◌, subst, arith}
use Rattle.std.specs.Prelude.{◌||◌, ◌==◌, not, codes}
use Rattle.std.proofs.lemmas.Bool.Decides.{nat_tests}
use Rattle.bd_model.specs.ExprView.{ExprView, Truth, views_of_list, count_of}
use Rattle.bd_model.specs.ExprView as view
use Rattle.bd_model.specs.Lawful.{Context, HasSort, HaveSort}
use Rattle.bd_model.specs.declared.design.Sort.{Sort}
use Rattle.bd_model.specs.declared.design.Sort.TheVariants as sorts
use Rattle.bd_syntax.specs.Words.{same_text, operator_of, operator_takes}
use Rattle.bd_syntax.specs.Forms.{Expression, leaf, application, Expressions, no_expressions, expression, expression_count}
use Rattle.bd_syntax.specs.WellFormed.{IsHead, IsExpression, AreExpressions}
use Rattle.bd_syntax.specs.declared.form.Spot.{Spot}
use Rattle.bd_syntax.specs.declared.operator.Operator as operator
use Rattle.bd_syntax.specs.declared.operator.Operator.TheVariants.{Not, And, Or, Implies, Iff, Equal, Ite, Read, Write}
use Rattle.bd_typer.specs.declared.names.Meaning.{Meaning}
use Rattle.bd_typer.specs.declared.names.Meaning.TheVariants.{Entry, Input, Symbol, Local, Later}
use Rattle.bd_typer.specs.declared.operation.Operation.{Operation}
use Rattle.bd_typer.specs.declared.operation.Operation.TheVariants.{Operator, Apply}
use Rattle.bd_typer.specs.Faults.{◌>>=◌}
use Rattle.bd_typer.specs.NameMap.{NameMap}
use Rattle.bd_typer.specs.Typing.{of_sort, value_named, leaf_value, typed_leaf, operator_sort, symbol_sort, symbol_named, operation, part_sort, built, typed, typed_parts}
use Rattle.bd_typer.specs.Complete.{NameSays, LeafSays, OperatorMakes, HeadMakes, Says, SayAll, IsIn, AreIn, TypingSound}
use Rattle.bd_typer.proofs.Complete.{HaveSorts, count_is, as_many}
use Rattle.bd_typer.proofs.Lists.{same_text-true}
use Rattle.bd_typer.proofs.Sound.{passes, of_sort-ok, then_ok}

-- ---- words

may_use : (inputs uses : Bool) → (inputs || not uses) ≡ true → uses ≡ true → inputs ≡ true
may_use true uses h u = refl
may_use false true h u = absurd (cc h)
may_use false false h u = absurd (cc u)

module _ (c : Context) (names : NameMap) (inputs : Bool) where
  named : (offset : ℕ) (m : Option Meaning) (v : ExprView × Sort) → ((k : Meaning) → m ≡ Some k → IsIn c inputs k) → value_named inputs offset m ≡ Ok v → NameSays inputs m v.0 × HasSort c v.0 v.1
  named offset None v there h = absurd (cc h)
  named offset (Some Later) v there h = absurd (cc h)
  named offset (Some (Symbol n a p)) v there h = absurd (cc h)
  named offset (Some (Entry n s)) v there h =
      let e : (view.Entry n, s) ≡ v = cc h in subst (λ (v : ExprView × Sort). NameSays inputs (Some (Entry n s)) v.0 × HasSort c v.0 v.1) e (refl, there (Entry n s) refl)
  named offset (Some (Input n s)) v there h =
      let p = passes inputs (view.Input n, s) v _ h in
      subst (λ (v : ExprView × Sort). NameSays inputs (Some (Input n s)) v.0 × HasSort c v.0 v.1) p.1 ((p.0, refl), there (Input n s) refl p.0)
  named offset (Some (Local n s u)) v there h =
      let p = passes (inputs || not u) (view.Local n, s) v _ h in
      subst (λ (v : ExprView × Sort). NameSays inputs (Some (Local n s u)) v.0 × HasSort c v.0 v.1) p.1 ((may_use inputs u p.0, refl), there (Local n s u) refl)

  -- by whether the word is true, and whether it is false
  word : (w : Spot) (v : ExprView × Sort) (t f : Bool) → AreIn c inputs names → same_text w.text (codes "true") ≡ t → same_text w.text (codes "false") ≡ f
      → cond t (Ok (Truth true, sorts.Bool)) (cond f (Ok (Truth false, sorts.Bool)) (value_named inputs w.offset (names w.text))) ≡ Ok v → LeafSays names inputs w v.0 × HasSort c v.0 v.1
  word w v true f there is other h =
      let e : (Truth true, sorts.Bool) ≡ v = cc h in
      subst (λ (v : ExprView × Sort). LeafSays names inputs w v.0 × HasSort c v.0 v.1) e (inl (same_text-true w.text (codes "true") is, refl), refl)
  word w v false true there is other h =
      let e : (Truth false, sorts.Bool) ≡ v = cc h in
      subst (λ (v : ExprView × Sort). LeafSays names inputs w v.0 × HasSort c v.0 v.1) e (inr (inl (same_text-true w.text (codes "false") other, refl)), refl)
  word w v false false there is other h =
      let n = named w.offset (names w.text) v (there w.text) h in
      (inr (inr (rw (is, other) refl, n.0)), n.1)

  leaf_sound : (want : Sort) (w : Spot) (e : ExprView) → AreIn c inputs names → typed_leaf names inputs want w ≡ Ok e → LeafSays names inputs w e × HasSort c e want
  unfolding typed_leaf
  leaf_sound want w e there h =
      let p = then_ok (leaf_value names inputs w) (λ v. of_sort want w.offset v.0 v.1) e h in
      let q = of_sort-ok want w.offset p.0.0 e p.0.1 p.2 in
      let n = word w p.0 (same_text w.text (codes "true")) (same_text w.text (codes "false")) there refl refl p.1 in
      (subst (LeafSays names inputs w) q.1 n.0, subst (λ x. HasSort c x want) q.1 (subst (HasSort c p.0.0) q.0 n.1))

-- ---- lists

-- what holds of each list of so many parts
one_part : (P : List ExprView → Type 0) → ((a : ExprView) → P (a ∷ [])) → (es : List ExprView) → length es ≡ 1 → P es
one_part P each [] h = absurd (omega arith)
one_part P each (a ∷ []) h = each a
one_part P each (a ∷ b ∷ es) h = absurd (omega arith)

two_parts : (P : List ExprView → Type 0) → ((a b : ExprView) → P (a ∷ b ∷ [])) → (es : List ExprView) → length es ≡ 2 → P es
two_parts P each [] h = absurd (omega arith)
two_parts P each (a ∷ es) h = one_part (λ xs. P (a ∷ xs)) (each a) es (omega arith)

three_parts : (P : List ExprView → Type 0) → ((a b d : ExprView) → P (a ∷ b ∷ d ∷ [])) → (es : List ExprView) → length es ≡ 3 → P es
three_parts P each [] h = absurd (omega arith)
three_parts P each (a ∷ es) h = two_parts (λ xs. P (a ∷ xs)) (each a) es (omega arith)

module _ (c : Context) (want : Sort) where
  have_sort : (s : Sort) (place : ℕ) (es : List ExprView) → HaveSorts c (λ n. s) place es → HaveSort c (views_of_list es) s
  have_sort s place [] h = tt
  have_sort s place (e ∷ es) h = (h.0, have_sort s (place + 1) es h.1)

  -- an operator whose parts have their sorts makes something of them, which has its sort
  -- an operator makes an expression of its sort of parts that have theirs
  abbrev IsMade : operator.Operator → List ExprView → Type 0
  IsMade op es = HaveSorts c (part_sort (Operator op) want) 0 es → OperatorMakes op es (built (Operator op) es) × HasSort c (built (Operator op) es) want

  made : (op : operator.Operator) (es : List ExprView) → operator_sort op want ≡ want → operator_takes op (length es) ≡ true → IsMade op es
  made Not es sort takes = one_part (IsMade Not) (λ a h. (refl, (sym sort, h.0))) es (grind (arith, nat_tests))
  made And es sort takes = λ h. (refl, (sym sort, grind (arith, nat_tests, count_is es), have_sort sorts.Bool 0 es h))
  made Or es sort takes = λ h. (refl, (sym sort, grind (arith, nat_tests, count_is es), have_sort sorts.Bool 0 es h))
  made Implies es sort takes = two_parts (IsMade Implies) (λ a b h. (refl, (sym sort, h.0, h.1.0))) es (grind (arith, nat_tests))
  made Iff es sort takes = two_parts (IsMade Iff) (λ a b h. (refl, (sym sort, h.0, h.1.0))) es (grind (arith, nat_tests))
  made Equal es sort takes = two_parts (IsMade Equal) (λ a b h. (refl, (sym sort, h.0, h.1.0))) es (grind (arith, nat_tests))
  made Read es sort takes = two_parts (IsMade Read) (λ m a h. (refl, (sym sort, h.0, h.1.0))) es (grind (arith, nat_tests))
  made Ite es sort takes = three_parts (IsMade Ite) (λ p a b h. (refl, (h.0, h.1.0, h.1.1.0))) es (grind (arith, nat_tests))
  made Write es sort takes = three_parts (IsMade Write) (λ m a d h. (refl, (sym sort, h.0, h.1.0, h.1.1.0))) es (grind (arith, nat_tests))

-- what a list's first word makes of parts that have their sorts, which has its sort
abbrev IsGood : Context → NameMap → Sort → Spot → Option operator.Operator → List ExprView → Operation → Type 0
IsGood c names want head op es how = HaveSorts c (part_sort how want) 0 es → HeadMakes op (names head.text) es (built how es) × HasSort c (built how es) want

module _ (c : Context) (names : NameMap) (inputs : Bool) (want : Sort) (offset : ℕ) (head : Spot) where
  -- a symbol that takes so many parts
  symbol_good : (m : Option Meaning) (es : List ExprView) (v : ℕ × Sort) → ((k : Meaning) → m ≡ Some k → IsIn c inputs k) → symbol_named head.offset (length es) m ≡ Ok v → v.1 ≡ want
      → HaveSorts c (λ n. sorts.Word) 0 es → HeadMakes None m es (view.Apply v.0 (views_of_list es)) × HasSort c (view.Apply v.0 (views_of_list es)) want
  symbol_good None es v there h sort parts = absurd (cc h)
  symbol_good (Some Later) es v there h sort parts = absurd (cc h)
  symbol_good (Some (Entry n s)) es v there h sort parts = absurd (cc h)
  symbol_good (Some (Input n s)) es v there h sort parts = absurd (cc h)
  symbol_good (Some (Local n s u)) es v there h sort parts = absurd (cc h)
  symbol_good (Some (Symbol n a p)) es v there h sort parts =
      let q = passes (a == length es) (n, symbol_sort p) v _ h in
      let f = there (Symbol n a p) refl in
      let many : length es ≡ a = grind (arith, nat_tests, q.0) in
      let number : n ≡ v.0 = ap (λ (v : ℕ × Sort). v.0) q.1 in
      let is : want ≡ symbol_sort f.0.predicate = sym sort ∙ ap (λ (v : ℕ × Sort). v.1) (sym q.1) ∙ ap symbol_sort (sym f.3) in
      subst (λ k. HeadMakes None (Some (Symbol n a p)) es (view.Apply k (views_of_list es)) × HasSort c (view.Apply k (views_of_list es)) want) number
      ((many, refl), ((f.0, f.1, is, count_is es ∙ many ∙ sym f.2), have_sort c want sorts.Word 0 es parts))

  head_good : (op : Option operator.Operator) (es : List ExprView) (how : Operation) → AreIn c inputs names → IsHead head.text (length es) op → operation names want offset head (length es) op ≡ Ok how → IsGood c names want head op es how
  unfolding operation
  head_good (Some op) es how there takes h =
      let p = of_sort-ok want offset (Operator op) how (operator_sort op want) h in
      subst (IsGood c names want head (Some op) es) p.1 (made c want op es p.0 takes)
  head_good None es how there takes h =
      let q = then_ok (symbol_named head.offset (length es) (names head.text)) (λ symbol. of_sort want offset (Apply symbol.0) symbol.1) how h in
      let p = of_sort-ok want offset (Apply q.0.0) how q.0.1 q.2 in
      subst (IsGood c names want head None es) p.1 (symbol_good (names head.text) es q.0 (there head.text) q.1 p.0)

mutual
  form_sound : (c : Context) (names : NameMap) (inputs : Bool) (want : Sort) (form : Expression) (e : ExprView) → AreIn c inputs names → IsExpression form → typed names inputs want form ≡ Ok e → Says names inputs form e × HasSort c e want
  form_sound c names inputs want (leaf w) e there is h = leaf_sound c names inputs want w e there h
  form_sound c names inputs want (application offset head parts) e there is h =
      let p = then_ok (operation names want offset head (expression_count parts) (operator_of head.text)) (λ how. typed_parts names inputs how want 0 parts >>= λ es. Ok (built how es)) e h in
      let q = then_ok (typed_parts names inputs p.0 want 0 parts) (λ es. Ok (built p.0 es)) e p.2 in
      let whole : built p.0 q.0 ≡ e = cc q.2 in
      let all = parts_sound c names inputs p.0 want 0 parts q.0 there is.1 q.1 in
      let many = as_many names inputs parts q.0 all.0 in
      let good = head_good c names inputs want offset head (operator_of head.text) q.0 p.0 there (subst (λ n. IsHead head.text n (operator_of head.text)) many is.0)
      (subst (λ n. operation names want offset head n (operator_of head.text) ≡ Ok p.0) many p.1) all.1 in
      subst (λ x. Says names inputs (application offset head parts) x × HasSort c x want) whole ((q.0, all.0, good.0), good.1)

  parts_sound : (c : Context) (names : NameMap) (inputs : Bool) (how : Operation) (want : Sort) (place : ℕ) (forms : Expressions) (es : List ExprView) → AreIn c inputs names → AreExpressions forms
      → typed_parts names inputs how want place forms ≡ Ok es → SayAll names inputs forms es × HaveSorts c (part_sort how want) place es
  parts_sound c names inputs how want place no_expressions [] there is h = (tt, tt)
  parts_sound c names inputs how want place no_expressions (e ∷ es) there is h = absurd (cc h)
  parts_sound c names inputs how want place (expression form forms) ys there is h =
      let p = then_ok (typed names inputs (part_sort how want place) form) (λ x. typed_parts names inputs how want (place + 1) forms >>= λ xs. Ok (x ∷ xs)) ys h in
      let q = then_ok (typed_parts names inputs how want (place + 1) forms) (λ xs. Ok (p.0 ∷ xs)) ys p.2 in
      let whole : p.0 ∷ q.0 ≡ ys = cc q.2 in
      let first = form_sound c names inputs (part_sort how want place) form p.0 there is.0 p.1 in
      let rest = parts_sound c names inputs how want (place + 1) forms q.0 there is.1 q.1 in
      subst (λ zs. SayAll names inputs (expression form forms) zs × HaveSorts c (part_sort how want) place zs) whole ((first.0, rest.0), (first.1, rest.1))

pub typing_sound : TypingSound
typing_sound = form_sound
