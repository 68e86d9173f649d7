-- What is typed has its sort, uses an input only where it may, and nests no deeper than its form.
use Rattle.std.proofs.Common.{◌≡◌, ℕ, ◌+◌, ◌≤◌, suc, Bool, true, false, cond, List, [], ◌∷◌, max, Option, Some, None, Result, Ok, Err, refl, ap, sym, ◌∙◌, subst, arith}
use Rattle.std.specs.Prelude.{◌||◌, ◌==◌, not, slice_get, codes}
use Rattle.std.proofs.lemmas.Option.{get_or_from_slice_get}
use Rattle.std.proofs.lemmas.Bool.Decides.{nat_tests}
use Rattle.bd_model.specs.ExprView.{ExprView, ExprViews, Truth, views_of_list, count_of, depth, exprs_depth, width, exprs_width}
use Rattle.bd_model.specs.ExprView as view
use Rattle.bd_model.specs.Fits.{result_sort}
use Rattle.bd_model.specs.Lawful.{Context, HasSort, HaveSort, uses_input, any_uses_input}
use Rattle.bd_model.specs.declared.design.Sort.{Sort}
use Rattle.bd_model.specs.declared.design.Sort.TheVariants as sorts
use Rattle.bd_model.specs.declared.design.Symbol.{Symbol as SymbolOf}
use Rattle.bd_syntax.specs.Words.{same_text, operator_of, operator_takes}
use Rattle.bd_syntax.specs.Forms.{Expression, leaf, application, Expressions, no_expressions, expression, expression_count}
use Rattle.bd_syntax.specs.WellFormed.{IsHead, IsExpression, AreExpressions, expression_nesting, nesting_of_all, HasFewParts, HaveFewParts}
use Rattle.bd_syntax.specs.declared.form.Spot.{Spot}
use Rattle.bd_syntax.specs.declared.operator.Operator as operator
use Rattle.bd_syntax.specs.declared.operator.Operator.TheVariants.{Not, And, Or, Implies, Iff, Equal, Ite, Read, Write}
use Rattle.bd_typer.specs.declared.names.Meaning.{Meaning}
use Rattle.bd_typer.specs.declared.names.Meaning.TheVariants.{Entry, Input, Symbol, Local, Later}
use Rattle.bd_typer.specs.declared.operation.Operation.{Operation}
use Rattle.bd_typer.specs.declared.operation.Operation.TheVariants.{Operator, Apply}
use Rattle.bd_typer.specs.Faults.{◌>>=◌}
use Rattle.bd_typer.specs.NameMap.{NameMap}
use Rattle.bd_typer.specs.Typing.{same_sort, of_sort, value_named, leaf_value, typed_leaf, operator_sort, symbol_sort, symbol_named, operation, part_sort, of_one_part, of_two_parts, of_three_parts, built, typed, typed_parts}

-- a meaning is that of something in the context
abbrev pub Fits : Context → List Bool → Bool → Meaning → Type 0
Fits c flags inputs (Entry number sort) = slice_get c.entries number ≡ Some sort
Fits c flags inputs (Input number sort) = inputs ≡ true → slice_get c.inputs number ≡ Some sort
Fits c flags inputs (Symbol number arity predicate) =
    (y : SymbolOf) × (slice_get c.symbols number ≡ Some y) × (y.arity ≡ arity) × (y.predicate ≡ predicate)
Fits c flags inputs (Local number sort uses) = (slice_get c.locals number ≡ Some sort) × (slice_get flags number ≡ Some uses)
Fits c flags inputs Later = Unit {0}

abbrev pub NamesFit : Context → List Bool → Bool → NameMap → Type 0
NamesFit c flags inputs names = (text : List ℕ) (m : Meaning) → names text ≡ Some m → Fits c flags inputs m

-- what holds of an expression that is typed
pub record IsSound (c : Context) (flags : List Bool) (inputs : Bool) (want : Sort) (source : Expression) (x : ExprView) : Type 0 where
  pub sort : HasSort c x want
  pub no_input : inputs ≡ false → uses_input flags x ≡ false
  pub deep : depth x ≤ expression_nesting source
  pub wide : (most : ℕ) → HasFewParts most source → width x ≤ most

-- the same of parts, from a place on
abbrev pub AreSound : Context → List Bool → Bool → (ℕ → Sort) → ℕ → Expressions → List ExprView → Type 0
AreSound c flags inputs want place no_expressions [] = Unit {0}
AreSound c flags inputs want place no_expressions (x ∷ xs) = ⊥
AreSound c flags inputs want place (expression e es) [] = ⊥
AreSound c flags inputs want place (expression e es) (x ∷ xs) =
    IsSound c flags inputs (want place) e x × AreSound c flags inputs want (place + 1) es xs

pub same_sort-true : (a b : Sort) → same_sort a b ≡ true → a ≡ b
same_sort-true sorts.Bool sorts.Bool h = refl
same_sort-true sorts.Word sorts.Word h = refl
same_sort-true sorts.Memory sorts.Memory h = refl
same_sort-true sorts.Bool sorts.Word h = absurd (cc h)
same_sort-true sorts.Bool sorts.Memory h = absurd (cc h)
same_sort-true sorts.Word sorts.Bool h = absurd (cc h)
same_sort-true sorts.Word sorts.Memory h = absurd (cc h)
same_sort-true sorts.Memory sorts.Bool h = absurd (cc h)
same_sort-true sorts.Memory sorts.Word h = absurd (cc h)

-- a test that lets a value through
pub passes : {A E : Type 0} (p : Bool) (x y : A) (e : E) → cond p (Ok x) (Err e) ≡ Ok y → (p ≡ true) × (x ≡ y)
passes true x y e h = (refl, cc h)
passes false x y e h = absurd (cc h)

pub of_sort-ok : {A : Type 0} (want : Sort) (offset : ℕ) (x y : A) (sort : Sort) → of_sort want offset x sort ≡ Ok y → (sort ≡ want) × (x ≡ y)
of_sort-ok want offset x y sort h = let p = passes (same_sort sort want) x y _ h in (same_sort-true sort want p.0, p.1)

-- a step before another that gave a value gave one too
pub then_ok : {A B E : Type 0} (r : Result A E) (f : A → Result B E) (y : B) → (r >>= f) ≡ Ok y → (x : A) × (r ≡ Ok x) × (f x ≡ Ok y)
then_ok (Ok x) f y h = (x, refl, h)
then_ok (Err e) f y h = absurd (cc h)

-- ---- words

or_not : (inputs uses : Bool) → (inputs || not uses) ≡ true → inputs ≡ false → uses ≡ false
or_not true uses h e = absurd (cc e)
or_not false true h e = absurd (cc h)
or_not false false h e = refl

module _ (c : Context) (flags : List Bool) (inputs : Bool) where
  abbrev IsValue : ExprView × Sort → Type 0
  IsValue v = HasSort c v.0 v.1 × (inputs ≡ false → uses_input flags v.0 ≡ false) × (depth v.0 ≤ 0) × (width v.0 ≤ 0)

  named_sound : (offset : ℕ) (m : Option Meaning) (v : ExprView × Sort) → ((k : Meaning) → m ≡ Some k → Fits c flags inputs k) → value_named inputs offset m ≡ Ok v → IsValue v
  named_sound offset None v fits h = absurd (cc h)
  named_sound offset (Some Later) v fits h = absurd (cc h)
  named_sound offset (Some (Symbol n a p)) v fits h = absurd (cc h)
  named_sound offset (Some (Entry n s)) v fits h =
      let e : (view.Entry n, s) ≡ v = cc h in subst IsValue e (fits (Entry n s) refl, λ _. refl, omega arith, omega arith)
  named_sound offset (Some (Input n s)) v fits h =
      let p = passes inputs (view.Input n, s) v _ h in
      subst IsValue p.1 (fits (Input n s) refl p.0, λ off. absurd (cc (p.0, off)), omega arith, omega arith)
  named_sound offset (Some (Local n s u)) v fits h =
      let p = passes (inputs || not u) (view.Local n, s) v _ h in
      let fit = fits (Local n s u) refl in
      subst IsValue p.1 (fit.0, λ off. get_or_from_slice_get flags n u false fit.1 ∙ or_not inputs u p.0 off, omega arith, omega arith)

  value_sound : (names : NameMap) (w : Spot) (v : ExprView × Sort) → ((k : Meaning) → names w.text ≡ Some k → Fits c flags inputs k) → leaf_value names inputs w ≡ Ok v → IsValue v
  value_sound names w v fits h = by_word (same_text w.text (codes "true")) (same_text w.text (codes "false")) h where
    by_word : (a b : Bool) → cond a (Ok (Truth true, sorts.Bool)) (cond b (Ok (Truth false, sorts.Bool)) (value_named inputs w.offset (names w.text))) ≡ Ok v → IsValue v
    by_word true b h = let e : (Truth true, sorts.Bool) ≡ v = cc h in subst IsValue e (refl, λ _. refl, omega arith, omega arith)
    by_word false true h = let e : (Truth false, sorts.Bool) ≡ v = cc h in subst IsValue e (refl, λ _. refl, omega arith, omega arith)
    by_word false false h = named_sound w.offset (names w.text) v fits h

pub leaf_sound : (c : Context) (flags : List Bool) (names : NameMap) (inputs : Bool) (want : Sort) (w : Spot) (x : ExprView) → NamesFit c flags inputs names → typed_leaf names inputs want w ≡ Ok x → IsSound c flags inputs want (leaf w) x
unfolding typed_leaf
leaf_sound c flags names inputs want w x fits h =
    let q = then_ok (leaf_value names inputs w) (λ value. of_sort want w.offset value.0 value.1) x h in
    let v = value_sound c flags inputs names w q.0 (fits w.text) q.1 in
    let p = of_sort-ok want w.offset q.0.0 x q.0.1 q.2 in
    subst (λ y. IsSound c flags inputs want (leaf w) y) p.1
    (record { sort = subst (HasSort c q.0.0) p.0 v.0; no_input = v.1; deep = v.2; wide = λ most few. omega (arith, v.3) })

-- ---- parts

-- what holds of parts that all have one sort
record AreAll (c : Context) (flags : List Bool) (inputs : Bool) (s : Sort) (es : Expressions) (xs : List ExprView) : Type 0 where
  sorts : HaveSort c (views_of_list xs) s
  no_input : inputs ≡ false → any_uses_input flags (views_of_list xs) ≡ false
  deep : exprs_depth (views_of_list xs) ≤ nesting_of_all es
  wide : (most : ℕ) → HaveFewParts most es → exprs_width (views_of_list xs) ≤ most
  count : count_of (views_of_list xs) ≡ expression_count es

or_none : (a b : Bool) → a ≡ false → b ≡ false → (a || b) ≡ false
or_none a b p q = rw (p, q) refl

all_sound : (c : Context) (flags : List Bool) (inputs : Bool) (s : Sort) (place : ℕ) (es : Expressions) (xs : List ExprView) → AreSound c flags inputs (λ n. s) place es xs → AreAll c flags inputs s es xs
all_sound c flags inputs s place no_expressions [] h = record { sorts = tt; no_input = λ _. refl; deep = omega arith; wide = λ most few. omega arith; count = refl }
all_sound c flags inputs s place no_expressions (x ∷ xs) h = absurd h
all_sound c flags inputs s place (expression e es) [] h = absurd h
all_sound c flags inputs s place (expression e es) (x ∷ xs) h =
    let rest = all_sound c flags inputs s (place + 1) es xs h.1 in record {
      sorts = (h.0.sort, rest.sorts);
      no_input = λ off. or_none _ _ (h.0.no_input off) (rest.no_input off);
      deep = omega (arith, h.0.deep, rest.deep);
      wide = λ most few. omega (arith, h.0.wide most few.0, rest.wide most few.1);
      count = omega (arith, rest.count);
    }

record FirstPart (c : Context) (flags : List Bool) (inputs : Bool) (want : ℕ → Sort) (place : ℕ) (es : Expressions) (xs : List ExprView) (n : ℕ) : Type 0 where
  e : Expression
  rest : Expressions
  x : ExprView
  others : List ExprView
  es-is : es ≡ expression e rest
  xs-is : xs ≡ x ∷ others
  count : expression_count rest ≡ n
  first : IsSound c flags inputs (want place) e x
  further : AreSound c flags inputs want (place + 1) rest others

module _ (c : Context) (flags : List Bool) (inputs : Bool) (want : ℕ → Sort) (place : ℕ) where
  first_part : (es : Expressions) (xs : List ExprView) (n : ℕ) → expression_count es ≡ n + 1 → AreSound c flags inputs want place es xs → FirstPart c flags inputs want place es xs n
  first_part no_expressions xs n count h = absurd (omega arith)
  first_part (expression e es) [] n count h = absurd h
  first_part (expression e es) (x ∷ xs) n count h = record { e = e; rest = es; x = x; others = xs; es-is = refl; xs-is = refl; count = omega arith; first = h.0; further = h.1 }

  no_part : (es : Expressions) (xs : List ExprView) → expression_count es ≡ 0 → AreSound c flags inputs want place es xs → (es ≡ no_expressions) × (xs ≡ [])
  no_part no_expressions [] count h = (refl, refl)
  no_part no_expressions (x ∷ xs) count h = absurd h
  no_part (expression e es) xs count h = absurd (omega arith)

module _ (c : Context) (flags : List Bool) (inputs : Bool) (want : Sort) (offset : ℕ) (head : Spot) where
  one_sound : (f : ℕ → Sort) (es : Expressions) (xs : List ExprView) → expression_count es ≡ 1 → AreSound c flags inputs f 0 es xs → want ≡ sorts.Bool → f 0 ≡ sorts.Bool → IsSound c flags inputs want (application offset head es) (of_one_part xs)
  one_sound f es xs count h is fs =
      let p = first_part c flags inputs f 0 es xs 0 count h in
      let q = no_part c flags inputs f 1 p.rest p.others p.count p.further in
      simp (p.es-is, p.xs-is, q.0, q.1) (record {
        sort = (is, subst (HasSort c p.x) fs p.first.sort);
        no_input = p.first.no_input;
        deep = omega (arith, p.first.deep);
        wide = λ most few. p.first.wide most few.1.0;
      })

  -- two parts with their sorts
  two_sound : (f : ℕ → Sort) (g : ExprView → ExprView → ExprView) (es : Expressions) (xs : List ExprView) → expression_count es ≡ 2 → AreSound c flags inputs f 0 es xs
      → ((a b : ExprView) → HasSort c a (f 0) → HasSort c b (f 1) → HasSort c (g a b) want)
      → ((a b : ExprView) → uses_input flags (g a b) ≡ (uses_input flags a || uses_input flags b))
      → ((a b : ExprView) → depth (g a b) ≡ suc (max (depth a) (depth b)))
      → ((a b : ExprView) → width (g a b) ≡ max (width a) (width b))
      → (k : List ExprView → ExprView) → ((a b : ExprView) → k (a ∷ b ∷ []) ≡ g a b)
      → IsSound c flags inputs want (application offset head es) (k xs)
  two_sound f g es xs count h sort uses deep wide k is =
      let p = first_part c flags inputs f 0 es xs 1 count h in
      let q = first_part c flags inputs f 1 p.rest p.others 0 p.count p.further in
      let r = no_part c flags inputs f 2 q.rest q.others q.count q.further in
      simp (p.es-is, p.xs-is, q.es-is, q.xs-is, r.0, r.1, is p.x q.x) (record {
        sort = sort p.x q.x p.first.sort q.first.sort;
        no_input = λ off. uses p.x q.x ∙ or_none _ _ (p.first.no_input off) (q.first.no_input off);
        deep = omega (arith, deep p.x q.x, p.first.deep, q.first.deep);
        wide = λ most few. omega (arith, wide p.x q.x, p.first.wide most few.1.0, q.first.wide most few.1.1.0);
      })

  three_sound : (f : ℕ → Sort) (g : ExprView → ExprView → ExprView → ExprView) (es : Expressions) (xs : List ExprView) → expression_count es ≡ 3 → AreSound c flags inputs f 0 es xs
      → ((a b d : ExprView) → HasSort c a (f 0) → HasSort c b (f 1) → HasSort c d (f 2) → HasSort c (g a b d) want)
      → ((a b d : ExprView) → uses_input flags (g a b d) ≡ ((uses_input flags a || uses_input flags b) || uses_input flags d))
      → ((a b d : ExprView) → depth (g a b d) ≡ suc (max (depth a) (max (depth b) (depth d))))
      → ((a b d : ExprView) → width (g a b d) ≡ max (width a) (max (width b) (width d)))
      → (k : List ExprView → ExprView) → ((a b d : ExprView) → k (a ∷ b ∷ d ∷ []) ≡ g a b d)
      → IsSound c flags inputs want (application offset head es) (k xs)
  three_sound f g es xs count h sort uses deep wide k is =
      let p = first_part c flags inputs f 0 es xs 2 count h in
      let q = first_part c flags inputs f 1 p.rest p.others 1 p.count p.further in
      let r = first_part c flags inputs f 2 q.rest q.others 0 q.count q.further in
      let n = no_part c flags inputs f 3 r.rest r.others r.count r.further in
      simp (p.es-is, p.xs-is, q.es-is, q.xs-is, r.es-is, r.xs-is, n.0, n.1, is p.x q.x r.x) (record {
        sort = sort p.x q.x r.x p.first.sort q.first.sort r.first.sort;
        no_input = λ off. uses p.x q.x r.x ∙ or_none _ _ (or_none _ _ (p.first.no_input off) (q.first.no_input off)) (r.first.no_input off);
        deep = omega (arith, deep p.x q.x r.x, p.first.deep, q.first.deep, r.first.deep);
        wide = λ most few. omega (arith, wide p.x q.x r.x, p.first.wide most few.1.0, q.first.wide most few.1.1.0, r.first.wide most few.1.1.1.0);
      })

  -- any number of parts of one sort
  many_sound : (s : Sort) (g : ExprViews → ExprView) (es : Expressions) (xs : List ExprView) → AreSound c flags inputs (λ n. s) 0 es xs
      → ((ys : ExprViews) → count_of ys ≡ expression_count es → HaveSort c ys s → HasSort c (g ys) want)
      → ((ys : ExprViews) → uses_input flags (g ys) ≡ any_uses_input flags ys)
      → ((ys : ExprViews) → depth (g ys) ≡ suc (exprs_depth ys))
      → ((ys : ExprViews) → width (g ys) ≡ max (count_of ys) (exprs_width ys))
      → IsSound c flags inputs want (application offset head es) (g (views_of_list xs))
  many_sound s g es xs h sort uses deep wide =
      let all = all_sound c flags inputs s 0 es xs h in
      let ys = views_of_list xs in record {
        sort = sort ys all.count all.sorts;
        no_input = λ off. uses ys ∙ all.no_input off;
        deep = omega (arith, deep ys, all.deep);
        wide = λ most few. omega (arith, wide ys, all.count, few.0, all.wide most few.1);
      }

  operator_sound : (op : operator.Operator) (es : Expressions) (xs : List ExprView) → operator_sort op want ≡ want → operator_takes op (expression_count es) ≡ true → AreSound c flags inputs (part_sort (Operator op) want) 0 es xs
      → IsSound c flags inputs want (application offset head es) (built (Operator op) xs)
  operator_sound Not es xs is takes h = one_sound (part_sort (Operator Not) want) es xs (grind (arith, nat_tests)) h (sym is) refl
  operator_sound And es xs is takes h = many_sound sorts.Bool view.And es xs h (λ ys n s. (sym is, grind (arith, nat_tests), s)) (λ ys. refl) (λ ys. refl) (λ ys. refl)
  operator_sound Or es xs is takes h = many_sound sorts.Bool view.Or es xs h (λ ys n s. (sym is, grind (arith, nat_tests), s)) (λ ys. refl) (λ ys. refl) (λ ys. refl)
  operator_sound Implies es xs is takes h = two_sound (part_sort (Operator Implies) want) view.Implies es xs (grind (arith, nat_tests)) h (λ a b p q. (sym is, p, q)) (λ a b. refl) (λ a b. refl) (λ a b. refl) (of_two_parts Implies) (λ a b. refl)
  operator_sound Iff es xs is takes h = two_sound (part_sort (Operator Iff) want) view.Iff es xs (grind (arith, nat_tests)) h (λ a b p q. (sym is, p, q)) (λ a b. refl) (λ a b. refl) (λ a b. refl) (of_two_parts Iff) (λ a b. refl)
  operator_sound Equal es xs is takes h = two_sound (part_sort (Operator Equal) want) view.Equal es xs (grind (arith, nat_tests)) h (λ a b p q. (sym is, p, q)) (λ a b. refl) (λ a b. refl) (λ a b. refl) (of_two_parts Equal) (λ a b. refl)
  operator_sound Read es xs is takes h = two_sound (part_sort (Operator Read) want) view.Read es xs (grind (arith, nat_tests)) h (λ a b p q. (sym is, p, q)) (λ a b. refl) (λ a b. refl) (λ a b. refl) (of_two_parts Read) (λ a b. refl)
  operator_sound Ite es xs is takes h = three_sound (part_sort (Operator Ite) want) view.Ite es xs (grind (arith, nat_tests)) h (λ a b d p q r. (p, q, r)) (λ a b d. refl) (λ a b d. refl) (λ a b d. refl) (of_three_parts Ite) (λ a b d. refl)
  operator_sound Write es xs is takes h = three_sound (part_sort (Operator Write) want) view.Write es xs (grind (arith, nat_tests)) h (λ a b d p q r. (sym is, p, q, r)) (λ a b d. refl) (λ a b d. refl) (λ a b d. refl) (of_three_parts Write) (λ a b d. refl)

  -- a symbol that takes so many parts
  symbol_fits : (n parts : ℕ) (m : Option Meaning) (v : ℕ × Sort) → ((k : Meaning) → m ≡ Some k → Fits c flags inputs k) → symbol_named n parts m ≡ Ok v
      → (y : SymbolOf) × (slice_get c.symbols v.0 ≡ Some y) × (v.1 ≡ result_sort y) × (parts ≡ y.arity)
  symbol_fits n parts None v fits h = absurd (cc h)
  symbol_fits n parts (Some Later) v fits h = absurd (cc h)
  symbol_fits n parts (Some (Entry i s)) v fits h = absurd (cc h)
  symbol_fits n parts (Some (Input i s)) v fits h = absurd (cc h)
  symbol_fits n parts (Some (Local i s u)) v fits h = absurd (cc h)
  symbol_fits n parts (Some (Symbol i a p)) v fits h =
      let q = passes (a == parts) (i, symbol_sort p) v _ h in
      let fit = fits (Symbol i a p) refl in
      let same : a ≡ parts = grind (arith, nat_tests, q.0) in
      (fit.0, subst (λ (v : ℕ × Sort). slice_get c.symbols v.0 ≡ Some fit.0) q.1 fit.1, ap (λ (v : ℕ × Sort). v.1) (sym q.1) ∙ ap symbol_sort (sym fit.3), sym same ∙ sym fit.2)

-- how a list goes on fits its parts
abbrev Works : Context → NameMap → Sort → ℕ → Spot → Expressions → Operation → Type 0
Works c names want offset head es how = (flags : List Bool) (inputs : Bool) (xs : List ExprView) → NamesFit c flags inputs names → AreSound c flags inputs (part_sort how want) 0 es xs → IsSound c flags inputs want (application offset head es) (built how xs)

operation_sound : (c : Context) (names : NameMap) (want : Sort) (offset : ℕ) (head : Spot) (es : Expressions) (op : Option operator.Operator) (how : Operation)
    → IsHead head.text (expression_count es) op → operation names want offset head (expression_count es) op ≡ Ok how → Works c names want offset head es how
unfolding operation
operation_sound c names want offset head es (Some op) how takes h flags inputs xs fits parts =
    let p = of_sort-ok want offset (Operator op) how (operator_sort op want) h in
    subst (λ o. AreSound c flags inputs (part_sort o want) 0 es xs → IsSound c flags inputs want (application offset head es) (built o xs)) p.1
    (operator_sound c flags inputs want offset head op es xs p.0 takes) parts
operation_sound c names want offset head es None how takes h flags inputs xs fits parts =
    let q = then_ok (symbol_named head.offset (expression_count es) (names head.text)) (λ symbol. of_sort want offset (Apply symbol.0) symbol.1) how h in
    let p = of_sort-ok want offset (Apply q.0.0) how q.0.1 q.2 in
    let f = symbol_fits c flags inputs want offset head head.offset (expression_count es) (names head.text) q.0 (fits head.text) q.1 in
    subst (λ o. AreSound c flags inputs (part_sort o want) 0 es xs → IsSound c flags inputs want (application offset head es) (built o xs)) p.1
    (λ ps. many_sound c flags inputs want offset head sorts.Word (view.Apply q.0.0) es xs ps
    (λ ys n s. ((f.0, f.1, sym p.0 ∙ f.2, n ∙ f.3), s)) (λ ys. refl) (λ ys. refl) (λ ys. refl)) parts

mutual
  -- a typed expression has the wanted sort, uses no input where none may be used, and is no larger than its form
  pub typed_sound : (c : Context) (flags : List Bool) (names : NameMap) (inputs : Bool) (want : Sort) (e : Expression) (x : ExprView) → NamesFit c flags inputs names → IsExpression e → typed names inputs want e ≡ Ok x → IsSound c flags inputs want e x
  typed_sound c flags names inputs want (leaf w) x fits is h = leaf_sound c flags names inputs want w x fits h
  typed_sound c flags names inputs want (application offset head es) x fits is h =
      let p = then_ok (operation names want offset head (expression_count es) (operator_of head.text)) (λ how. typed_parts names inputs how want 0 es >>= λ xs. Ok (built how xs)) x h in
      let q = then_ok (typed_parts names inputs p.0 want 0 es) (λ xs. Ok (built p.0 xs)) x p.2 in
      let built-is : built p.0 q.0 ≡ x = cc q.2 in
      subst (λ y. IsSound c flags inputs want (application offset head es) y) built-is
      (operation_sound c names want offset head es (operator_of head.text) p.0 is.0 p.1 flags inputs q.0 fits (parts_sound c flags names inputs p.0 want 0 es q.0 fits is.1 q.1))

  parts_sound : (c : Context) (flags : List Bool) (names : NameMap) (inputs : Bool) (how : Operation) (want : Sort) (place : ℕ) (es : Expressions) (xs : List ExprView) → NamesFit c flags inputs names → AreExpressions es
      → typed_parts names inputs how want place es ≡ Ok xs → AreSound c flags inputs (part_sort how want) place es xs
  parts_sound c flags names inputs how want place no_expressions [] fits is h = tt
  parts_sound c flags names inputs how want place no_expressions (x ∷ xs) fits is h = absurd (cc h)
  parts_sound c flags names inputs how want place (expression e es) ys fits is h =
      let p = then_ok (typed names inputs (part_sort how want place) e) (λ x. typed_parts names inputs how want (place + 1) es >>= λ xs. Ok (x ∷ xs)) ys h in
      let q = then_ok (typed_parts names inputs how want (place + 1) es) (λ xs. Ok (p.0 ∷ xs)) ys p.2 in
      let ys-is : p.0 ∷ q.0 ≡ ys = cc q.2 in
      subst (λ zs. AreSound c flags inputs (part_sort how want) place (expression e es) zs) ys-is
      (typed_sound c flags names inputs (part_sort how want place) e p.0 fits is.0 p.1, parts_sound c flags names inputs how want (place + 1) es q.0 fits is.1 q.1)
