-- What is wanted rests on what is wanted before it.
use Rattle.std.proofs.Common.{◌≡◌, ℕ, zero, suc, ◌+◌, ◌<◌, ◌≤◌, ◌⊎◌, inl, inr, ◌==◌, if◌then◌else◌, nat_lt, Bool, true, false, List, [], ◌∷◌, Option, None, Some, Contains, slice_get, slice_index_or, refl, ap, sym, ◌∙◌, subst, arith, eq-eqb, eqb-true}
use Rattle.std.specs.List.{All}
use Rattle.std.proofs.lemmas.Bool.{cases_lt, ltb-true, ltb-false}
use Rattle.std.proofs.lemmas.List.Elements.{All-head, All-tail}
use Rattle.std.proofs.lemmas.Option.{none-some, same_Some, slice_get-get_or}
use Rattle.bd_model.specs.declared.design.Sort.TheVariants as sort
use Rattle.bd_model.specs.declared.table.Scalar.{Scalar}
use Rattle.bd_terms.specs.declared.node.Node.{Node}
use Rattle.bd_terms.specs.declared.node.Node.TheVariants.{True, Not, And, Or, Ite, Eq, App, Pred, Read, Write, Init}
use Rattle.bd_terms.specs.Graph.{HasSort, IsGraph, children, sort_at}
use Rattle.bd_terms.specs.Denotation.{truth, word}
use Rattle.bd_terms.proofs.Graphs.{FitsSorts-get, sort_at-get}
use Rattle.bd_terms.proofs.Reaching.{children-below}
use Rattle.bd_function.specs.declared.flat.FlatRow.{FlatRow}
use Rattle.bd_function.specs.declared.flat.FlatSym.{FlatSym}
use Rattle.bd_function.specs.Flat.{IsFlat, under}
use Rattle.bd_equality.specs.declared.wanted.Wanted.{Wanted}
use Rattle.bd_equality.specs.declared.wanted.Wanted.TheVariants.{Truth, Equation}
use Rattle.bd_equality.specs.declared.wanted.Way.TheVariants as way
use Rattle.bd_equality.specs.declared.wanted.Way.{Way as TheWay}
use Rattle.bd_equality.specs.Made.{Words, branch, head, node_branch, node_head}
use Rattle.bd_equality.specs.inner.Means.{value_of}
use Rattle.bd_equality.specs.inner.Split.{AreWords, IsControl, IsWanted, IsWay, StandBefore, arguments_at, between, equations, node_parts, part, parts}
use Rattle.bd_equality.proofs.Flats.{word_ite}
use Rattle.bd_list.proofs.Membership.{first, second, third}

nat_lt-true : (m n : ℕ) → nat_lt m n ≡ true → m < n
nat_lt-true m n h = ltb-true m n h

nat_lt-false : (m n : ℕ) → nat_lt m n ≡ false → n ≤ m
nat_lt-false m n h = ltb-false m n h

-- the branches of an ite of words are words
ite_words : (nodes : List Node) → IsGraph nodes → (i c a b : ℕ) → HasSort nodes i sort.Word → slice_get nodes i ≡ Some (Ite c a b) → HasSort nodes a sort.Word × HasSort nodes b sort.Word
ite_words nodes g i c a b w there =
    let fits = FitsSorts-get nodes g i (Ite c a b) there in
    let same : sort_at nodes a ≡ sort.Word = sym (sort_at-get nodes g i (Ite c a b) there) ∙ w.sorted in (
      record { inside = fits.1.inside; sorted = same },
      record { inside = fits.2.inside; sorted = fits.2.sorted ∙ same },
    )

head_by : (o : Option Node) (c : ℕ) → node_head o ≡ Some c → (a : ℕ) × (b : ℕ) × (o ≡ Some (Ite c a b))
head_by (Some (Ite d a b)) c h = (a, b, ap (λ z. Some (Ite z a b)) (same_Some d c h))
head_by o c h = absurd (none-some c h)

branch_by : (side : Bool) (c x : ℕ) (o : Option Node) → (node_branch side c x o ≡ x) ⊎ ((a : ℕ) × (b : ℕ) × (o ≡ Some (Ite c a b)) × (node_branch side c x o ≡ (if side then a else b)))
branch_by side c x (Some (Ite d a b)) = by (d == c) refl
  where
    by : (t : Bool) → (d == c) ≡ t → (node_branch side c x (Some (Ite d a b)) ≡ x) ⊎ ((l : ℕ) × (r : ℕ) × (◌≡◌ {A = Option Node} (Some (Ite d a b)) (Some (Ite c l r))) × (node_branch side c x (Some (Ite d a b)) ≡ (if side then l else r)))
    by true e = inr (a, b, ap (λ z. Some (Ite z a b)) (eqb-true d c e), ap (λ t. if t then (if side then a else b) else x) e)
    by false e = inl (ap (λ t. if t then (if side then a else b) else x) e)
branch_by side c x o = inl refl

same_choice : (b : Bool) (n : ℕ) → n ≡ (if b then n else n)
same_choice true n = refl
same_choice false n = refl

equal_choices : (b : Bool) (x y m n : ℕ) → ((if b then x else y) == (if b then m else n)) ≡ (if b then (x == m) else (y == n))
equal_choices true x y m n = refl
equal_choices false x y m n = refl

pub between_either : (a b : ℕ) → ((between a b ≡ Equation a b) × (a ≤ b)) ⊎ ((between a b ≡ Equation b a) × (b < a))
between_either a b = by (nat_lt b a) refl
  where
    by : (t : Bool) → nat_lt b a ≡ t → ((between a b ≡ Equation a b) × (a ≤ b)) ⊎ ((between a b ≡ Equation b a) × (b < a))
    by true e = inr (ap (λ t. if t then Equation b a else Equation a b) e, nat_lt-true b a e)
    by false e = inl (ap (λ t. if t then Equation b a else Equation a b) e, nat_lt-false b a e)

-- the equation of two words
pub between_wanted : (nodes : List Node) (a b : ℕ) → HasSort nodes a sort.Word → HasSort nodes b sort.Word → IsWanted nodes (between a b)
between_wanted nodes a b wa wb = elim (between_either a b) [
  | inl q ↦ subst (IsWanted nodes) (sym q.0) (record { left = wa; right = wb; ordered = q.1 })
  | inr q ↦ subst (IsWanted nodes) (sym q.0) (record { left = wb; right = wa; ordered = omega (arith, q.1) })
]

-- how late something that is wanted stands: a truth value by its place, an equation after the truth values of lesser places
pub level : ℕ → ℕ
level zero = 0
level (suc n) = level n + n + 3

level-suc : (n : ℕ) → level (suc n) ≡ level n + n + 3
unfolding level
level-suc n = refl

level_grows : (m n : ℕ) → m ≤ n → level m ≤ level n
level_grows m zero h = let e : m ≡ 0 = omega arith in subst (λ k. level k ≤ level 0) (sym e) (omega arith)
level_grows m (suc n) h = elim (cases_lt m (suc n)) [
  | inl lt ↦ let k = level_grows m n (omega arith) in let e = level-suc n in omega (arith, k, e)
  | inr le ↦ let e : m ≡ suc n = omega arith in subst (λ k. level k ≤ level (suc n)) (sym e) (omega arith)
]

level_above : (m n : ℕ) → m < n → level m + m + 3 ≤ level n
level_above m n h = let k = level_grows (suc m) n (omega arith) in let e = level-suc m in omega (arith, k, e)

-- the later of two words counts first
pub pair_rank : ℕ → ℕ → ℕ
pair_rank a b = if nat_lt b a then level a + b + 1 else level b + a + 1

pair_rank-ordered : (a b : ℕ) → a ≤ b → pair_rank a b ≡ level b + a + 1
unfolding pair_rank
pair_rank-ordered a b h = by (nat_lt b a) refl
  where
    by : (t : Bool) → nat_lt b a ≡ t → (if nat_lt b a then level a + b + 1 else level b + a + 1) ≡ level b + a + 1
    by true e = let lt = nat_lt-true b a e in absurd (omega (arith, lt, h))
    by false e = ap (λ t. if t then level a + b + 1 else level b + a + 1) e

pair_rank-turned : (a b : ℕ) → b < a → pair_rank a b ≡ level a + b + 1
unfolding pair_rank
pair_rank-turned a b h = by (nat_lt b a) refl
  where
    by : (t : Bool) → nat_lt b a ≡ t → (if nat_lt b a then level a + b + 1 else level b + a + 1) ≡ level a + b + 1
    by true e = ap (λ t. if t then level a + b + 1 else level b + a + 1) e
    by false e = let le = nat_lt-false b a e in absurd (omega (arith, le, h))

pub rank : Wanted → ℕ
rank (Truth i) = level i
rank (Equation a b) = pair_rank a b

rank-truth : (i : ℕ) → rank (Truth i) ≡ level i
unfolding rank
rank-truth i = refl

rank-equation : (a b : ℕ) → rank (Equation a b) ≡ pair_rank a b
unfolding rank
rank-equation a b = refl

-- the rank of an equation of two words, each of which isn't later than one of an ordered pair, and one of which is earlier
rank_between : (x y a b : ℕ) → a ≤ b → x ≤ a → y ≤ b → (x < a) ⊎ (y < b) → rank (between x y) < rank (Equation a b)
rank_between x y a b le p q less = elim (between_either x y) [
  | inl e ↦
      let is = ap rank e.0 ∙ rank-equation x y ∙ pair_rank-ordered x y e.1 in
      let whole = rank-equation a b ∙ pair_rank-ordered a b le in
      elim (cases_lt y b) [
        | inl lt ↦ let k = level_above y b lt in omega (arith, is, whole, k, e.1)
        | inr ge ↦
            let same : y ≡ b = omega (arith, q, ge) in
            let k = ap level same in
            elim less [ inl lt ↦ omega (arith, is, whole, k, lt) | inr lt ↦ absurd (omega (arith, lt, ge)) ]
      ]
  | inr e ↦
      let is = ap rank e.0 ∙ rank-equation y x ∙ pair_rank-ordered y x (omega (arith, e.1)) in
      let whole = rank-equation a b ∙ pair_rank-ordered a b le in
      elim (cases_lt x b) [
        | inl lt ↦ let k = level_above x b lt in omega (arith, is, whole, k, e.1)
        | inr ge ↦
            let same : x ≡ b = omega (arith, p, le, ge) in
            let k = ap level same in
            let ab : a ≡ b = omega (arith, p, le, ge) in
            omega (arith, is, whole, k, e.1, ab)
      ]
]

-- a truth value before one of two words
rank_truth : (c a b : ℕ) → a ≤ b → c < b → rank (Truth c) < rank (Equation a b)
rank_truth c a b le lt =
    let is = rank-truth c in
    let whole = rank-equation a b ∙ pair_rank-ordered a b le in
    let k = level_grows c b (omega (arith, lt)) in
    omega (arith, is, whole, k)

-- truth values and words before a truth value
rank_below : (c i : ℕ) → c < i → rank (Truth c) < rank (Truth i)
rank_below c i lt = let a = rank-truth c in let b = rank-truth i in let k = level_above c i lt in omega (arith, a, b, k)

rank_words : (a b i : ℕ) → a < i → b < i → rank (between a b) < rank (Truth i)
rank_words a b i p q = elim (between_either a b) [
  | inl e ↦ let is = ap rank e.0 ∙ rank-equation a b ∙ pair_rank-ordered a b e.1 in let k = level_above b i q in let w = rank-truth i in omega (arith, is, k, w, e.1)
  | inr e ↦ let is = ap rank e.0 ∙ rank-equation b a ∙ pair_rank-ordered b a (omega (arith, e.1)) in let k = level_above a i p in let w = rank-truth i in omega (arith, is, k, w, e.1)
]

-- a word is one of two, by a control
abbrev IsChoiceOf : List Node → ℕ → ℕ → (ℕ → Scalar) → ℕ → ℕ → Type 0
IsChoiceOf nodes c x v a b = word (under v) nodes x ≡ (if truth (under v) nodes c then word (under v) nodes a else word (under v) nodes b)

-- what a control is, and what words are under it
module _ (nodes : List Node) (g : IsGraph nodes) where
  branch_le : (side : Bool) (c x : ℕ) → branch nodes side c x ≤ x
  branch_le side c x = elim (branch_by side c x (slice_get nodes x)) [
    | inl q ↦ omega (arith, q)
    | inr q ↦ let lt = side_below q.0 q.1 q.2 side in omega (arith, lt, q.3)
  ]
    where
      side_below : (a b : ℕ) → slice_get nodes x ≡ Some (Ite c a b) → (s : Bool) → (if s then a else b) < x
      side_below a b there true = children-below nodes g x (Ite c a b) there a (second c a (b ∷ []))
      side_below a b there false = children-below nodes g x (Ite c a b) there b (third c a b [])

  branch_lt : (side : Bool) (c x : ℕ) → head nodes x ≡ Some c → branch nodes side c x < x
  branch_lt side c x h =
      let q = head_by (slice_get nodes x) c h in
      let is : branch nodes side c x ≡ (if side then q.0 else q.1) = ap (node_branch side c x) q.2 ∙ ap (λ t. if t then (if side then q.0 else q.1) else x) (eq-eqb c c refl) in
      let lt = side_below q.0 q.1 q.2 side in
      omega (arith, lt, is)
    where
      side_below : (a b : ℕ) → slice_get nodes x ≡ Some (Ite c a b) → (s : Bool) → (if s then a else b) < x
      side_below a b there true = children-below nodes g x (Ite c a b) there a (second c a (b ∷ []))
      side_below a b there false = children-below nodes g x (Ite c a b) there b (third c a b [])

  branch_word : (side : Bool) (c x : ℕ) → HasSort nodes x sort.Word → HasSort nodes (branch nodes side c x) sort.Word
  branch_word side c x w = elim (branch_by side c x (slice_get nodes x)) [
    | inl q ↦ subst (λ z. HasSort nodes z sort.Word) (sym q) w
    | inr q ↦ subst (λ z. HasSort nodes z sort.Word) (sym q.3) (by q.0 q.1 (ite_words nodes g x c q.0 q.1 w q.2) side)
  ]
    where
      by : (a b : ℕ) → HasSort nodes a sort.Word × HasSort nodes b sort.Word → (s : Bool) → HasSort nodes (if s then a else b) sort.Word
      by a b w true = w.0
      by a b w false = w.1

  word_branch : (c x : ℕ) (v : ℕ → Scalar)
      → word (under v) nodes x ≡ (if truth (under v) nodes c then word (under v) nodes (branch nodes true c x) else word (under v) nodes (branch nodes false c x))
  word_branch c x v = by (slice_get nodes x) refl
    where
      test : (d a b : ℕ) → slice_get nodes x ≡ Some (Ite d a b) → (t : Bool) → (d == c) ≡ t → IsChoiceOf nodes c x v (if t then a else x) (if t then b else x)
      test d a b there true e = word_ite nodes g x c a b (there ∙ ap (λ z. Some (Ite z a b)) (eqb-true d c e)) v
      test d a b there false e = same_choice (truth (under v) nodes c) (word (under v) nodes x)

      by : (o : Option Node) → slice_get nodes x ≡ o → IsChoiceOf nodes c x v (node_branch true c x o) (node_branch false c x o)
      by (Some (Ite d a b)) there = test d a b there (d == c) refl
      by o there = same_choice (truth (under v) nodes c) (word (under v) nodes x)

  -- two words are equal where what they are under the control is
  pub words_branch : (a b c : ℕ) (v : ℕ → Scalar) → value_of nodes (Words a b) v ≡
      (if truth (under v) nodes c then value_of nodes (Words (branch nodes true c a) (branch nodes true c b)) v else value_of nodes (Words (branch nodes false c a) (branch nodes false c b)) v)
  words_branch a b c v = (λ i. word_branch c a v i == word_branch c b v i) ∙ equal_choices (truth (under v) nodes c) _ _ _ _

  -- what an equation rests on is an equation of words
  pub part_wanted : (side : Bool) (c a b : ℕ) → IsWanted nodes (Equation a b) → IsWanted nodes (part nodes side c a b)
  part_wanted side c a b h = between_wanted nodes (branch nodes side c a) (branch nodes side c b) (branch_word side c a h.left) (branch_word side c b h.right)

  -- and stands before it
  pub part_rank : (side : Bool) (c a b : ℕ) → a ≤ b → IsControl nodes a b c → rank (part nodes side c a b) < rank (Equation a b)
  part_rank side c a b le is =
      rank_between (branch nodes side c a) (branch nodes side c b) a b le (branch_le side c a) (branch_le side c b)
      (elim is [ inl h ↦ inl (branch_lt side c a h) | inr h ↦ inr (branch_lt side c b h) ])

  -- a control is a truth value before its word
  head_before : (x c : ℕ) → head nodes x ≡ Some c → (c < x) × HasSort nodes c sort.Bool
  head_before x c h =
      let q = head_by (slice_get nodes x) c h in (
        children-below nodes g x (Ite c q.0 q.1) q.2 c (first c (q.0 ∷ q.1 ∷ [])),
        (FitsSorts-get nodes g x (Ite c q.0 q.1) q.2).0,
      )

  pub control_wanted : (a b c : ℕ) → IsControl nodes a b c → HasSort nodes c sort.Bool
  control_wanted a b c (inl h) = (head_before a c h).1
  control_wanted a b c (inr h) = (head_before b c h).1

  pub control_rank : (a b c : ℕ) → a ≤ b → IsControl nodes a b c → rank (Truth c) < rank (Equation a b)
  control_rank a b c le (inl h) = let lt = (head_before a c h).0 in rank_truth c a b le (omega (arith, lt, le))
  control_rank a b c le (inr h) = rank_truth c a b le (head_before b c h).0

  -- all of it is wanted, and stands before it
  pub record Precedes (whole x : Wanted) : Type 0 where
    pub wanted : IsWanted nodes x
    pub before : rank x < rank whole

  pub data ArePreceding (whole : Wanted) : List Wanted → Type 0 where
    NoPart : ArePreceding whole []
    APart : (x : Wanted) (xs : List Wanted) → Precedes whole x → ArePreceding whole xs → ArePreceding whole (x ∷ xs)

  equations_precede : (a b : ℕ) → a ≤ b → (left right : List ℕ) → AreWords nodes left → AreWords nodes right → StandBefore left a → StandBefore right b → ArePreceding (Equation a b) (equations left right)
  equations_precede a b le [] right wl wr l r = NoPart
  equations_precede a b le (x ∷ left) [] wl wr l r = NoPart
  equations_precede a b le (x ∷ left) (y ∷ right) wl wr l r =
      APart (between x y) (equations left right)
      (record { wanted = between_wanted nodes x y wl.0 wr.0; before = rank_between x y a b le (omega (arith, l.0)) (omega (arith, r.0)) (inl l.0) })
      (equations_precede a b le left right wl.1 wr.1 l.1 r.1)

  truth_part : (i : ℕ) (node : Node) → slice_get nodes i ≡ Some node → (c : ℕ) → HasSort nodes c sort.Bool → Contains (children node) c → Precedes (Truth i) (Truth c)
  truth_part i node there c s h = record { wanted = s; before = rank_below c i (children-below nodes g i node there c h) }

  node_precede : (i : ℕ) (node : Node) → slice_get nodes i ≡ Some node → sort_at nodes i ≡ sort.Bool → ArePreceding (Truth i) (node_parts (Some node))
  node_precede i (Not a) there s = let f = FitsSorts-get nodes g i (Not a) there in APart _ _ (truth_part i (Not a) there a f (first a [])) NoPart
  node_precede i (And a b) there s =
      let f = FitsSorts-get nodes g i (And a b) there in
      APart _ _ (truth_part i (And a b) there b f.1 (second a b [])) (APart _ _ (truth_part i (And a b) there a f.0 (first a (b ∷ []))) NoPart)
  node_precede i (Or a b) there s =
      let f = FitsSorts-get nodes g i (Or a b) there in
      APart _ _ (truth_part i (Or a b) there b f.1 (second a b [])) (APart _ _ (truth_part i (Or a b) there a f.0 (first a (b ∷ []))) NoPart)
  node_precede i (Ite c a b) there s =
      let f = FitsSorts-get nodes g i (Ite c a b) there in
      let same : sort_at nodes a ≡ sort.Bool = sym (sort_at-get nodes g i (Ite c a b) there) ∙ s in
      APart _ _ (truth_part i (Ite c a b) there b (record { inside = f.2.inside; sorted = f.2.sorted ∙ same }) (third c a b []))
      (APart _ _ (truth_part i (Ite c a b) there a (record { inside = f.1.inside; sorted = same }) (second c a (b ∷ [])))
      (APart _ _ (truth_part i (Ite c a b) there c f.0 (first c (a ∷ b ∷ []))) NoPart))
  node_precede i (Eq a b) there s =
      let f = FitsSorts-get nodes g i (Eq a b) there in
      APart _ _ (record {
        wanted = between_wanted nodes a b f.0 f.1;
        before = rank_words a b i (children-below nodes g i (Eq a b) there a (first a (b ∷ []))) (children-below nodes g i (Eq a b) there b (second a b []));
      }) NoPart
  node_precede i True there s = NoPart
  node_precede i (App x args) there s = NoPart
  node_precede i (Pred x args) there s = NoPart
  node_precede i (Read m a) there s = NoPart
  node_precede i (Write m a d) there s = NoPart
  node_precede i (Init e) there s = NoPart

  words_of : (xs : List ℕ) → All (λ a. HasSort nodes a sort.Word) xs → AreWords nodes xs
  words_of [] h = tt
  words_of (x ∷ xs) h = (All-head (λ a. HasSort nodes a sort.Word) x xs h, words_of xs (All-tail (λ a. HasSort nodes a sort.Word) x xs h))

  -- the arguments of rows are words
  pub row_words : (root : ℕ) (syms : List FlatSym) → IsFlat nodes root syms → (s : FlatSym) (r : FlatRow) → Contains syms s → Contains s.rows r → AreWords nodes r.args
  row_words root syms flat s r l h = words_of r.args (flat.words s l r h)

  -- what something that is wanted rests on
  pub parts_precede : (root : ℕ) (syms : List FlatSym) → IsFlat nodes root syms → (marked : Option (List ℕ)) (p : Wanted) (w : TheWay) → IsWanted nodes p → IsWay nodes syms marked p w → ArePreceding p (parts nodes syms p w)
  parts_precede root syms flat marked (Truth i) w h k =
      let there = slice_get-get_or nodes i True h.inside in
      subst (λ o. ArePreceding (Truth i) (node_parts o)) (sym there) (node_precede i (slice_index_or nodes i True) there h.sorted)
  parts_precede root syms flat marked (Equation a b) way.Plain h k = NoPart
  parts_precede root syms flat marked (Equation a b) (way.Control c) h k =
      APart _ _ (record { wanted = control_wanted a b c k.1; before = control_rank a b c h.ordered k.1 })
      (APart _ _ (record { wanted = part_wanted false c a b h; before = part_rank false c a b h.ordered k.1 })
      (APart _ _ (record { wanted = part_wanted true c a b h; before = part_rank true c a b h.ordered k.1 }) NoPart))
  parts_precede root syms flat marked (Equation a b) (way.Arguments p) h k =
      let r = k.1.rows in
      equations_precede a b h.ordered (arguments_at syms p.symbol p.left) (arguments_at syms p.symbol p.right)
      (subst (AreWords nodes) r.first_arguments (row_words root syms flat r.holder r.first r.listed r.is_first.has))
      (subst (AreWords nodes) r.second_arguments (row_words root syms flat r.holder r.second r.listed r.is_second.has))
      k.1.left_before k.1.right_before
  parts_precede root syms flat marked (Equation a b) way.Never h k = NoPart

-- a term that is no ite has no control
pub no_head : (node : Node) → ((c a b : ℕ) → node ≡ Ite c a b → ⊥) → node_head (Some node) ≡ None
no_head (Ite c a b) none = absurd (none c a b refl)
no_head node none = refl
