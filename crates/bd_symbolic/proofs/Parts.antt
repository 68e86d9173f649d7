-- Terms of several expressions, and of the parts of a list one by one.
use Rattle.std.proofs.Common.{◌≡◌, ℕ, suc, ◌+◌, ◌<◌, ◌≤◌, ◌&&◌, ◌||◌, Bool, true, false, List, [], ◌∷◌, ◌++◌, map, drop, get_or, length, Ok, refl, ap, ap₂, sym, ◌∙◌, subst, arith, add-one, drop-cons, append-nil, append_assoc, length-append, zero-add}
use Rattle.std.specs.List.{AllByRecursion, list_all, list_any}
use Rattle.std.proofs.lemmas.List.{drop_all}
use Rattle.std.proofs.lemmas.List.Elements.{All-from_recursion}
use Rattle.bd_model.specs.ExprView.{ExprView, ExprViews, And, Or, Apply, expr_view, expr_views, views_of_list, count_of}
use Rattle.bd_model.specs.declared.expr.Expr.{Expr}
use Rattle.bd_model.specs.declared.expr.Exprs.{Exprs, out-Exprs}
use Rattle.bd_model.specs.Value.{Env, value_of, values_of, is_true}
use Rattle.bd_model.specs.Value.{word_of as word_in}
use Rattle.bd_model.specs.Lawful.{Context, HasSort, HaveSort}
use Rattle.bd_model.specs.declared.design.Sort.{Sort}
use Rattle.bd_model.specs.declared.design.Sort.TheVariants as sort
use Rattle.bd_model.specs.declared.table.Value.{Value}
use Rattle.bd_model.proofs.Views.{expr_views-items, values_of-expr_views}
use Rattle.bd_terms.specs.declared.node.Node.{Node}
use Rattle.bd_terms.specs.Graph.{AddsUses, Extends}
use Rattle.bd_terms.specs.Graph.{HasSort as TermHasSort}
use Rattle.bd_terms.specs.Denotation.{World, Denoted, Denotes, Truth, truth_of, word_of, denoted, truth, word, words}
use Rattle.bd_terms.specs.declared.node.Node.TheVariants as node
use Rattle.bd_terms.proofs.Growth.{Extends-self, Extends-trans, HasSort-Extends, denoted-Extends}
use Rattle.bd_symbolic.specs.DesignSymbols.{GrowsWithin}
use Rattle.bd_symbolic.specs.Made.{AreJoined, AreMade, Called, IsConstant, IsMade}
use Rattle.bd_symbolic.specs.Symbolic.{Terms, AreTerms, DenoteEnv, DenotesExpr, context_in}
use Rattle.bd_symbolic.specs.inner.Evaluates.{Evaluates, EvaluatesBoth, EvaluatesThree, IsReady, AreReady, DenoteWords}
use Rattle.bd_symbolic.proofs.Growing.{Grows-self, Grows-trans, Grows-none, context_in-Grows}
use Rattle.bd_symbolic.proofs.Making.{called-Extends, constant-Extends, made-Extends}
use Rattle.bd_symbolic.proofs.Denoting.{IsReady-Grows, Denotes-later, Denotes-earlier}
use Rattle.bd_symbolic.proofs.Applying.{TakesArguments}
use Rattle.bd_symbolic.proofs.Arms.{truth-Extends, truth-part, word-part}

pub both : (old mid new : List Node) (t : Terms) (a b : ExprView) (x y : ℕ) → AreTerms old t → GrowsWithin t.design old mid → GrowsWithin t.design mid new
    → DenotesExpr old mid t a x → DenotesExpr mid new t b y → EvaluatesBoth old new t a b (Ok (x, y))
both old mid new t a b x y k p q h l = record {
  grows = Grows-trans t.design old mid new p q;
  terms = (Denotes-later t a x old mid new q h, Denotes-earlier t b y old mid new p k l);
}

pub three : (old mid new : List Node) (t : Terms) (a b c : ExprView) (x y z : ℕ) → AreTerms old t → GrowsWithin t.design old mid → GrowsWithin t.design mid new
    → DenotesExpr old mid t a x → DenotesExpr mid new t b y → DenotesExpr mid new t c z → EvaluatesThree old new t a b c (Ok (x, y, z))
three old mid new t a b c x y z k p q h l m = record {
  grows = Grows-trans t.design old mid new p q;
  terms = (Denotes-later t a x old mid new q h, Denotes-earlier t b y old mid new p k l, Denotes-earlier t c z old mid new p k m);
}

have_list : (c : Context) (s : Sort) (es : List Expr) → HaveSort c (views_of_list (map expr_view es)) s → AllByRecursion (λ x. HasSort c (expr_view x) s) es
have_list c s [] h = tt
have_list c s (e ∷ es) h = (h.0, have_list c s es h.1)

-- each part has the sort
pub have_parts : (c : Context) (s : Sort) (es : Exprs) → HaveSort c (expr_views es) s → AllByRecursion (λ x. HasSort c (expr_view x) s) (out-Exprs es).items.items
have_parts c s es h = have_list c s (out-Exprs es).items.items (subst (λ vs. HaveSort c vs s) (expr_views-items es) h)

pub front_of : (items : List Expr) (i : ℕ) (x : Expr) → i < length items → x ≡ get_or items i x → drop i items ≡ x ∷ drop (i + 1) items
front_of items i x within is = rw (add-one, drop-cons items i x) (ap (λ y. y ∷ drop (suc i) items) (sym is))

-- the parts so far are joined in one term, and the rest is to come
pub record Joined (op : Bool → Bool → Bool) (whole : List Value → Bool) (form : ℕ → ℕ → Node) (wrap : ExprViews → ExprView) (old new : List Node) (t : Terms) (es : ExprViews) (rest : List Expr) (id : ℕ) : Type 0 where
  pub grows : GrowsWithin t.design old new
  pub sorted : TermHasSort new id sort.Bool
  pub plain : (w : World) → denoted w new id ≡ Truth (truth w new id)
  pub left : AllByRecursion (λ x. HasSort (context_in old t) (expr_view x) sort.Bool) rest
  pub denotes : (w : World) (env : Env) → DenoteEnv w old t env → op (truth w new id) (whole (map (λ x. value_of env (expr_view x)) rest)) ≡ whole (values_of env es)
  pub made : (later : List Node) (z : ℕ) → Extends new later → AreJoined later t form id (views_of_list (map expr_view rest)) z → IsMade later t (wrap es) z

truth_again : (d : Denoted) (b : Bool) → d ≡ Truth b → d ≡ Truth (truth_of d)
truth_again d b h = h ∙ ap Truth (sym (ap truth_of h))

pub joined_init : (op : Bool → Bool → Bool) (whole : List Value → Bool) (form : ℕ → ℕ → Node) (wrap : ExprViews → ExprView) (unit : Bool) → ((b : Bool) → op unit b ≡ b) → (old new : List Node) (t : Terms) (es : Exprs) (id : ℕ)
    → AreReady old t (expr_views es) sort.Bool → Extends old new → AddsUses old new [] → Denotes new id (λ w. Truth unit) → TermHasSort new id sort.Bool
    → ((later : List Node) (z : ℕ) → Extends new later → AreJoined later t form id (expr_views es) z → IsMade later t (wrap (expr_views es)) z)
    → Joined op whole form wrap old new t (expr_views es) (out-Exprs es).items.items id
joined_init op whole form wrap unit law old new t es id ready e u d s starts = record {
  grows = Grows-none t.design old new e u;
  sorted = s;
  plain = λ w. truth_again (denoted w new id) unit (d.is w);
  left = have_parts (context_in old t) sort.Bool es ready.sorted;
  denotes = λ w env k.
      let first : truth w new id ≡ unit = ap truth_of (d.is w) in
      ap₂ op first (ap whole (sym (values_of-expr_views env es))) ∙ law (whole (values_of env (expr_views es)));
  made = λ later z more j. starts later z more (subst (λ vs. AreJoined later t form id vs z) (sym (expr_views-items es)) j);
}

pub joined_ready : (op : Bool → Bool → Bool) (whole : List Value → Bool) (form : ℕ → ℕ → Node) (wrap : ExprViews → ExprView) (old mid : List Node) (t : Terms) (es : ExprViews) (items : List Expr) (i id : ℕ) (x : Expr) → AreTerms old t → i < length items → x ≡ get_or items i x
    → Joined op whole form wrap old mid t es (drop i items) id → IsReady mid t (expr_view x)
joined_ready op whole form wrap old mid t es items i id x k within is h =
    let left = rw (front_of items i x within is) at h.left in
    IsReady-Grows t (expr_view x) old mid h.grows (record { terms = k; sorted = (sort.Bool, left.0) })

pub joined_sort : (op : Bool → Bool → Bool) (whole : List Value → Bool) (form : ℕ → ℕ → Node) (wrap : ExprViews → ExprView) (old mid new : List Node) (t : Terms) (es : ExprViews) (items : List Expr) (i id y : ℕ) (x : Expr) → AreTerms old t → i < length items → x ≡ get_or items i x
    → Joined op whole form wrap old mid t es (drop i items) id → DenotesExpr mid new t (expr_view x) y → TermHasSort new y sort.Bool
joined_sort op whole form wrap old mid new t es items i id y x k within is h d =
    let left = rw (front_of items i x within is) at h.left in
    d.sorted sort.Bool (subst (λ c. HasSort c (expr_view x) sort.Bool) (sym (context_in-Grows t old mid h.grows k)) left.0)

-- one part more
pub joined_step : (op : Bool → Bool → Bool) (whole : List Value → Bool) (form : ℕ → ℕ → Node) (wrap : ExprViews → ExprView) → ((v : Value) (vs : List Value) → whole (v ∷ vs) ≡ op (is_true v) (whole vs)) → ((a b c : Bool) → op (op a b) c ≡ op a (op b c))
    → (old mid next new : List Node) (t : Terms) (es : ExprViews) (items : List Expr) (i id y z : ℕ) (x : Expr) → AreTerms old t → i < length items → x ≡ get_or items i x
    → Joined op whole form wrap old mid t es (drop i items) id → GrowsWithin t.design mid next → DenotesExpr mid next t (expr_view x) y
    → Extends next new → AddsUses next new [] → Denotes new z (λ w. Truth (op (truth w next id) (truth w next y))) → TermHasSort new z sort.Bool → Called new (form id y) z
    → Joined op whole form wrap old new t es (drop (i + 1) items) z
joined_step op whole form wrap cons assoc old mid next new t es items i id y z x k within is h g d e u q s c =
    let front : drop i items ≡ x ∷ drop (i + 1) items = front_of items i x within is in
    let left = rw front at h.left in
    let part : DenotesExpr old next t (expr_view x) y = Denotes-earlier t (expr_view x) y old mid next h.grows k d in
    record {
      grows = Grows-trans t.design old mid new h.grows (Grows-trans t.design mid next new g (Grows-none t.design next new e u));
      sorted = s;
      plain = λ w. truth_again (denoted w new z) _ (q.is w);
      left = left.1;
      denotes = λ w env p.
          let rest : Bool = whole (map (λ (a : Expr). value_of env (expr_view a)) (drop (i + 1) items)) in
          let v : Value = value_of env (expr_view x) in
          let one : truth w new z ≡ op (truth w next id) (truth w next y) = ap truth_of (q.is w) in
          let two : truth w next id ≡ truth w mid id = truth-Extends w mid next g.extends id sort.Bool h.sorted in
          let three : truth w next y ≡ is_true v = truth-part t (expr_view x) y old next part w env p in
          let four : op (truth w mid id) (whole (v ∷ map (λ (a : Expr). value_of env (expr_view a)) (drop (i + 1) items))) ≡ whole (values_of env es) = subst (λ l. op (truth w mid id) (whole (map (λ (a : Expr). value_of env (expr_view a)) l)) ≡ whole (values_of env es)) front (h.denotes w env p) in
          ap (λ b. op b rest) (one ∙ ap₂ op two three) ∙ assoc (truth w mid id) (is_true v) rest ∙ ap (op (truth w mid id)) (sym (cons v (map (λ (a : Expr). value_of env (expr_view a)) (drop (i + 1) items)))) ∙ four;
      made = λ last o more j.
          let from : Extends next last = Extends-trans next new last e more in
          h.made last o (Extends-trans mid next last g.extends from) (subst (λ (l : List Expr). AreJoined last t form id (views_of_list (map expr_view l)) o) (sym front)
          (y, z, made-Extends next last from t (expr_view x) y d.made, called-Extends new last more (form id y) z c, j));
    }

joined_all : (op : Bool → Bool → Bool) (whole : List Value → Bool) (form : ℕ → ℕ → Node) (wrap : ExprViews → ExprView) (old new : List Node) (t : Terms) (es : ExprViews) (items : List Expr) (i id : ℕ) → length items ≤ i → ((b : Bool) → op b (whole []) ≡ b)
    → Joined op whole form wrap old new t es (drop i items) id → (w : World) (env : Env) → DenoteEnv w old t env → truth w new id ≡ whole (values_of env es)
joined_all op whole form wrap old new t es items i id past law h w env p =
    sym (law (truth w new id)) ∙ subst (λ l. op (truth w new id) (whole (map (λ (a : Expr). value_of env (expr_view a)) l)) ≡ whole (values_of env es)) (drop_all i items past) (h.denotes w env p)

joined_made : (op : Bool → Bool → Bool) (whole : List Value → Bool) (form : ℕ → ℕ → Node) (wrap : ExprViews → ExprView) (old new : List Node) (t : Terms) (es : ExprViews) (items : List Expr) (i id : ℕ) → length items ≤ i
    → Joined op whole form wrap old new t es (drop i items) id → IsMade new t (wrap es) id
joined_made op whole form wrap old new t es items i id past h =
    h.made new id (Extends-self new) (subst (λ (l : List Expr). AreJoined new t form id (views_of_list (map expr_view l)) id) (sym (drop_all i items past)) refl)

-- where the terms of the parts are joined to the first one, the conjunction, or the disjunction, is made
pub all_starts : (new : List Node) (t : Terms) (es : ExprViews) (id : ℕ) → IsConstant new true id → (later : List Node) (z : ℕ) → Extends new later → AreJoined later t node.And id es z → IsMade later t (And es) z
all_starts new t es id h later z more j = (id, constant-Extends new later more true id h, j)

pub any_starts : (new : List Node) (t : Terms) (es : ExprViews) (id : ℕ) → IsConstant new false id → (later : List Node) (z : ℕ) → Extends new later → AreJoined later t node.Or id es z → IsMade later t (Or es) z
any_starts new t es id h later z more j = (id, constant-Extends new later more false id h, j)

and_unit : (b : Bool) → (b && true) ≡ b
and_unit true = refl
and_unit false = refl

or_unit : (b : Bool) → (b || false) ≡ b
or_unit true = refl
or_unit false = refl

pub and_assoc : (a b c : Bool) → ((a && b) && c) ≡ (a && (b && c))
and_assoc true b c = refl
and_assoc false b c = refl

to_truth : (d : Denoted) (b : Bool) → d ≡ Truth (truth_of d) → truth_of d ≡ b → d ≡ Truth b
to_truth d b h k = h ∙ ap Truth k

pub all_done : (old new : List Node) (t : Terms) (es : ExprViews) (items : List Expr) (i id : ℕ) → length items ≤ i → Joined (λ a b. a && b) (list_all is_true) node.And And old new t es (drop i items) id
    → Evaluates old new t (And es) (Ok id)
all_done old new t es items i id past h = record {
  grows = h.grows;
  term = record {
    inside = h.sorted.inside;
    sorted = λ s k. subst (TermHasSort new id) (sym k.0) h.sorted;
    denotes = λ w env p. to_truth (denoted w new id) _ (h.plain w) (joined_all (λ a b. a && b) (list_all is_true) node.And And old new t es items i id past and_unit h w env p);
    made = joined_made (λ a b. a && b) (list_all is_true) node.And And old new t es items i id past h;
  };
}

pub any_done : (old new : List Node) (t : Terms) (es : ExprViews) (items : List Expr) (i id : ℕ) → length items ≤ i → Joined (λ a b. a || b) (list_any is_true) node.Or Or old new t es (drop i items) id
    → Evaluates old new t (Or es) (Ok id)
any_done old new t es items i id past h = record {
  grows = h.grows;
  term = record {
    inside = h.sorted.inside;
    sorted = λ s k. subst (TermHasSort new id) (sym k.0) h.sorted;
    denotes = λ w env p. to_truth (denoted w new id) _ (h.plain w) (joined_all (λ a b. a || b) (list_any is_true) node.Or Or old new t es items i id past or_unit h w env p);
    made = joined_made (λ a b. a || b) (list_any is_true) node.Or Or old new t es items i id past h;
  };
}

-- the words so far, and the rest to come
pub record Gathered (old new : List Node) (t : Terms) (es : ExprViews) (rest : List Expr) (ids : List ℕ) : Type 0 where
  pub grows : GrowsWithin t.design old new
  pub sorted : AllByRecursion (λ id. TermHasSort new id sort.Word) ids
  pub count : length ids + length rest ≡ count_of es
  pub left : AllByRecursion (λ x. HasSort (context_in old t) (expr_view x) sort.Word) rest
  pub denotes : (w : World) (env : Env) → DenoteEnv w old t env → words w new ids ++ map word_in (map (λ x. value_of env (expr_view x)) rest) ≡ map word_in (values_of env es)
  pub made : (later : List Node) (args : List ℕ) → Extends new later → AreMade later t (views_of_list (map expr_view rest)) args → AreMade later t es (ids ++ args)

count_list : (es : List Expr) → length es ≡ count_of (views_of_list (map expr_view es))
count_list [] = refl
count_list (e ∷ es) = ap suc (count_list es)

pub gathered_init : (old : List Node) (t : Terms) (es : Exprs) → AreReady old t (expr_views es) sort.Word → Gathered old old t (expr_views es) (out-Exprs es).items.items []
gathered_init old t es ready = record {
  grows = Grows-self t.design old;
  sorted = tt;
  count = zero-add (length (out-Exprs es).items.items) ∙ count_list (out-Exprs es).items.items ∙ ap count_of (sym (expr_views-items es));
  left = have_parts (context_in old t) sort.Word es ready.sorted;
  denotes = λ w env k. ap (map word_in) (sym (values_of-expr_views env es));
  made = λ later args more j. subst (λ vs. AreMade later t vs args) (sym (expr_views-items es)) j;
}

pub gathered_ready : (old mid : List Node) (t : Terms) (es : ExprViews) (items : List Expr) (i : ℕ) (ids : List ℕ) (x : Expr) → AreTerms old t → i < length items → x ≡ get_or items i x
    → Gathered old mid t es (drop i items) ids → IsReady mid t (expr_view x)
gathered_ready old mid t es items i ids x k within is h =
    let left = rw (front_of items i x within is) at h.left in
    IsReady-Grows t (expr_view x) old mid h.grows (record { terms = k; sorted = (sort.Word, left.0) })

sorted_push : (mid next : List Node) → Extends mid next → (ids : List ℕ) (y : ℕ) → AllByRecursion (λ id. TermHasSort mid id sort.Word) ids → TermHasSort next y sort.Word → AllByRecursion (λ id. TermHasSort next id sort.Word) (ids ++ y ∷ [])
sorted_push mid next e [] y h k = (k, tt)
sorted_push mid next e (id ∷ ids) y h k = (HasSort-Extends mid next e id sort.Word h.0, sorted_push mid next e ids y h.1 k)

words_push : (w : World) (mid next : List Node) → Extends mid next → (ids : List ℕ) (y n : ℕ) → AllByRecursion (λ id. TermHasSort mid id sort.Word) ids → word w next y ≡ n → words w next (ids ++ y ∷ []) ≡ words w mid ids ++ n ∷ []
words_push w mid next e [] y n h k = ap (λ m. m ∷ []) k
words_push w mid next e (id ∷ ids) y n h k = ap₂ (λ m ms. m ∷ ms) (ap word_of (denoted-Extends w mid next e id h.0.inside)) (words_push w mid next e ids y n h.1 k)

-- one word more
pub gathered_step : (old mid next : List Node) (t : Terms) (es : ExprViews) (items : List Expr) (i : ℕ) (ids : List ℕ) (y : ℕ) (x : Expr) → AreTerms old t → i < length items → x ≡ get_or items i x
    → Gathered old mid t es (drop i items) ids → GrowsWithin t.design mid next → DenotesExpr mid next t (expr_view x) y → Gathered old next t es (drop (i + 1) items) (ids ++ y ∷ [])
gathered_step old mid next t es items i ids y x k within is h g d =
    let front : drop i items ≡ x ∷ drop (i + 1) items = front_of items i x within is in
    let left = rw front at h.left in
    let part : DenotesExpr old next t (expr_view x) y = Denotes-earlier t (expr_view x) y old mid next h.grows k d in
    record {
      grows = Grows-trans t.design old mid next h.grows g;
      sorted = sorted_push mid next g.extends ids y h.sorted (part.sorted sort.Word left.0);
      count = omega (arith, length-append ids (y ∷ []), ap length front, h.count);
      left = left.1;
      denotes = λ w env p.
          let rest : List ℕ = map word_in (map (λ (a : Expr). value_of env (expr_view a)) (drop (i + 1) items)) in
          ap (λ l. l ++ rest) (words_push w mid next g.extends ids y _ h.sorted (word-part t (expr_view x) y old next part w env p))
          ∙ append_assoc (words w mid ids) (word_in (value_of env (expr_view x)) ∷ []) rest
          ∙ subst (λ l. words w mid ids ++ map word_in (map (λ (a : Expr). value_of env (expr_view a)) l) ≡ map word_in (values_of env es)) front (h.denotes w env p);
      made = λ later args more j.
          subst (AreMade later t es) (sym (append_assoc ids (y ∷ []) args)) (h.made later (y ∷ args) (Extends-trans mid next later g.extends more)
          (subst (λ (l : List Expr). AreMade later t (views_of_list (map expr_view l)) (y ∷ args)) (sym front) (made-Extends next later more t (expr_view x) y d.made, j)));
    }

-- after the last item each word is there
gathered_made : (old new : List Node) (t : Terms) (es : ExprViews) (items : List Expr) (i : ℕ) (ids : List ℕ) → length items ≤ i → Gathered old new t es (drop i items) ids → AreMade new t es ids
gathered_made old new t es items i ids past h =
    subst (AreMade new t es) (append-nil ids) (h.made new [] (Extends-self new) (subst (λ (l : List Expr). AreMade new t (views_of_list (map expr_view l)) []) (sym (drop_all i items past)) tt))

pub gathered_done : (old new : List Node) (t : Terms) (es : ExprViews) (items : List Expr) (i : ℕ) (ids : List ℕ) → length items ≤ i → Gathered old new t es (drop i items) ids → DenoteWords old new t es ids
gathered_done old new t es items i ids past h = record {
  sorted = All-from_recursion (λ id. TermHasSort new id sort.Word) ids h.sorted;
  count = omega (arith, h.count, ap length (drop_all i items past));
  denotes = λ w env k.
      sym (append-nil (words w new ids)) ∙ subst (λ (l : List Expr). words w new ids ++ map word_in (map (λ (a : Expr). value_of env (expr_view a)) l) ≡ map word_in (values_of env es)) (drop_all i items past) (h.denotes w env k);
  made = gathered_made old new t es items i ids past h;
}

-- as many words as the symbol takes
pub applies_to : (nodes new : List Node) (t : Terms) (e : ExprView) (f : ℕ) (es : ExprViews) (ids : List ℕ) → e ≡ Apply f es → IsReady nodes t e → DenoteWords nodes new t es ids → TakesArguments t.design f (length ids)
applies_to nodes new t e f es ids is h d =
    let k : HasSort (context_in nodes t) (Apply f es) h.sorted.0 = subst (λ x. HasSort (context_in nodes t) x h.sorted.0) is h.sorted.1 in
    (k.0.0, k.0.1, d.count ∙ k.0.3)

pub thrice : (old mid next new : List Node) (t : Terms) (a b c : ExprView) (x y z : ℕ) → AreTerms old t → GrowsWithin t.design old mid → GrowsWithin t.design mid next → GrowsWithin t.design next new
    → DenotesExpr old mid t a x → DenotesExpr mid next t b y → DenotesExpr next new t c z → EvaluatesThree old new t a b c (Ok (x, y, z))
thrice old mid next new t a b c x y z k p q r h l m =
    let two : EvaluatesBoth old next t a b (Ok (x, y)) = both old mid next t a b x y k p q h l in
    record {
      grows = Grows-trans t.design old next new two.grows r;
      terms = (Denotes-later t a x old next new r two.terms.0, Denotes-later t b y old next new r two.terms.1, Denotes-earlier t c z old next new two.grows k m);
    }

-- the sort of a form
pub sorted_as : (nodes : List Node) (t : Terms) (e f : ExprView) → e ≡ f → (r : IsReady nodes t e) → HasSort (context_in nodes t) f r.sorted.0
sorted_as nodes t e f is r = subst (λ x. HasSort (context_in nodes t) x r.sorted.0) is r.sorted.1

-- a part of an expression is ready where the graph has grown
pub part_ready : (t : Terms) (b : ExprView) (s : Sort) (old mid : List Node) → GrowsWithin t.design old mid → AreTerms old t → HasSort (context_in old t) b s → IsReady mid t b
part_ready t b s old mid g k h = IsReady-Grows t b old mid g (record { terms = k; sorted = (s, h) })
