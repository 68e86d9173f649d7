-- A stack of visits settles what is wanted: each visit keeps what the stack owes, and makes the stack smaller.
use Rattle.std.proofs.Common.{◌≡◌, ℕ, zero, suc, ◌+◌, ◌<◌, ◌≤◌, ◌⊎◌, inl, inr, List, [], ◌∷◌, ◌++◌, Option, Some, Contains, length, map, slice_get, refl, ap, sym, ◌∙◌, subst, arith}
use Rattle.std.proofs.lemmas.List.{length_push}
use Rattle.std.proofs.lemmas.Option.{none-some, slice_get_within}
use Rattle.bd_terms.specs.declared.node.Node.{Node}
use Rattle.bd_terms.specs.Graph.{IsGraph}
use Rattle.bd_terms.proofs.Places.{get-front, get-push}
use Rattle.bd_function.specs.declared.flat.FlatRow.{FlatRow}
use Rattle.bd_function.specs.declared.flat.FlatSym.{FlatSym}
use Rattle.bd_function.specs.Flat.{IsFlat}
use Rattle.bd_equality.specs.declared.settled.Done.{Done}
use Rattle.bd_equality.specs.declared.wanted.Visit.{Visit}
use Rattle.bd_equality.specs.declared.wanted.Visit.TheVariants.{Enter, Finish}
use Rattle.bd_equality.specs.declared.wanted.Wanted.{Wanted}
use Rattle.bd_equality.specs.declared.wanted.Wanted.TheVariants.{Truth, Equation}
use Rattle.bd_equality.specs.declared.wanted.Way.TheVariants as way
use Rattle.bd_equality.specs.declared.wanted.Way.{Way as TheWay}
use Rattle.bd_equality.specs.inner.Split.{IsWanted, IsWay, arguments_at, args_of, equations, node_parts, parts}
use Rattle.bd_equality.specs.inner.Steps.{AreKnown, Enters, IsAwaited, IsKnown, IsOwed, IsSettling, wanted_of}
use Rattle.bd_equality.proofs.Splits.{APart, ArePreceding, parts_precede, rank}
use Rattle.bd_terms.specs.declared.node.Node.TheVariants.{Not, And, Or, Ite, Eq}

-- a number added as often
pub times : ℕ → ℕ → ℕ
times zero w = 0
times (suc k) w = w + times k w

times-zero : (w : ℕ) → times 0 w ≡ 0
unfolding times
times-zero w = refl

times-suc : (k w : ℕ) → times (suc k) w ≡ w + times k w
unfolding times
times-suc k w = refl

times_grows : (j k w : ℕ) → j ≤ k → times j w ≤ times k w
times_grows zero k w h = let e = times-zero w in omega (arith, e)
times_grows (suc j) zero w h = absurd (omega arith)
times_grows (suc j) (suc k) w h = let i = times_grows j k w (omega arith) in let d = times-suc j w in let e = times-suc k w in omega (arith, i, d, e)

-- how many visits something takes at most that rests on so many others, and one more, by its rank
pub weight : ℕ → ℕ → ℕ
weight width zero = 2
weight width (suc n) = times width (weight width n) + weight width n + 2

weight-zero : (k : ℕ) → weight k 0 ≡ 2
unfolding weight
weight-zero k = refl

weight-suc : (k n : ℕ) → weight k (suc n) ≡ times k (weight k n) + weight k n + 2
unfolding weight
weight-suc k n = refl

weight_two : (k n : ℕ) → 2 ≤ weight k n
weight_two k zero = let e = weight-zero k in omega (arith, e)
weight_two k (suc n) = let e = weight-suc k n in omega (arith, e)

weight_grows : (k m n : ℕ) → m ≤ n → weight k m ≤ weight k n
weight_grows k zero n h = let i = weight_two k n in let e = weight-zero k in omega (arith, i, e)
weight_grows k (suc m) zero h = absurd (omega arith)
weight_grows k (suc m) (suc n) h = by (weight_grows k m n (omega arith))
  where
    times_more : (j v w : ℕ) → v ≤ w → times j v ≤ times j w
    times_more zero v w h = let d = times-zero v in let e = times-zero w in omega (arith, d, e)
    times_more (suc j) v w h = let i = times_more j v w h in let d = times-suc j v in let e = times-suc j w in omega (arith, i, d, e, h)

    by : weight k m ≤ weight k n → weight k (suc m) ≤ weight k (suc n)
    by i = let t = times_more k (weight k m) (weight k n) i in let d = weight-suc k m in let e = weight-suc k n in omega (arith, i, t, d, e)

pub weight_of : ℕ → Visit → ℕ
weight_of k (Enter p) = weight k (rank p)
weight_of k (Finish p w) = 1

weight_of-enter : (k : ℕ) (p : Wanted) → weight_of k (Enter p) ≡ weight k (rank p)
unfolding weight_of
weight_of-enter k p = refl

weight_of-finish : (k : ℕ) (p : Wanted) (w : TheWay) → weight_of k (Finish p w) ≡ 1
unfolding weight_of
weight_of-finish k p w = refl

pub weight_all : ℕ → List Visit → ℕ
weight_all k [] = 0
weight_all k (v ∷ vs) = weight_of k v + weight_all k vs

weight-cons : (k : ℕ) (v : Visit) (vs : List Visit) → weight_all k (v ∷ vs) ≡ weight_of k v + weight_all k vs
unfolding weight_all
weight-cons k v vs = refl

weight-none : (k : ℕ) → weight_all k [] ≡ 0
unfolding weight_all
weight-none k = refl

weight_append : (k : ℕ) (us vs : List Visit) → weight_all k (us ++ vs) ≡ weight_all k us + weight_all k vs
weight_append k [] vs = let e = weight-none k in omega (arith, e)
weight_append k (u ∷ us) vs =
    let h = weight_append k us vs in
    let a = weight-cons k u us in
    let b : weight_all k ((u ∷ us) ++ vs) ≡ weight_of k u + weight_all k (us ++ vs) = weight-cons k u (us ++ vs) in
    omega (arith, h, a, b)

positive : (k : ℕ) (v : Visit) → 0 < weight_of k v
positive k (Enter p) = let h = weight_two k (rank p) in let e = weight_of-enter k p in omega (arith, h, e)
positive k (Finish p w) = let e = weight_of-finish k p w in omega (arith, e)

-- what is entered for parts before a whole
weight_parts : (k : ℕ) (nodes : List Node) (g : IsGraph nodes) (whole : Wanted) (n : ℕ) → rank whole ≡ suc n → (xs : List Wanted) → ArePreceding nodes g whole xs → weight_all k (map Enter xs) ≤ times (length xs) (weight k n)
weight_parts k nodes g whole n e [] h = let a = weight-none k in omega (arith, a)
weight_parts k nodes g whole n e (x ∷ xs) (APart _ _ p rest) =
    let h = weight_parts k nodes g whole n e xs rest in
    let a : weight_all k (map Enter (x ∷ xs)) ≡ weight_of k (Enter x) + weight_all k (map Enter xs) = weight-cons k (Enter x) (map Enter xs) in
    let b = weight_of-enter k x in
    let c = weight_grows k (rank x) n (omega (arith, p.before, e)) in
    let d = times-suc (length xs) (weight k n) in
    omega (arith, h, a, b, c, d)

-- the stack is smaller without its top
pub smaller-top : (k : ℕ) (visits rest : List Visit) (v : Visit) → visits ≡ rest ++ v ∷ [] → weight_all k rest < weight_all k visits
smaller-top k visits rest v e =
    let h = ap (weight_all k) e ∙ weight_append k rest (v ∷ []) in
    let a = weight-cons k v [] in
    let b = weight-none k in
    let c = positive k v in
    omega (arith, h, a, b, c)

-- how many arguments rows have at most, and more than other parts are
pub arguments_count : List FlatRow → ℕ
arguments_count [] = 0
arguments_count (r ∷ rs) = length r.args + arguments_count rs

pub width : List FlatSym → ℕ
width [] = 3
width (s ∷ ss) = arguments_count s.rows + width ss

count-cons : (r : FlatRow) (rs : List FlatRow) → arguments_count (r ∷ rs) ≡ length r.args + arguments_count rs
unfolding arguments_count
count-cons r rs = refl

width-cons : (s : FlatSym) (ss : List FlatSym) → width (s ∷ ss) ≡ arguments_count s.rows + width ss
unfolding width
width-cons s ss = refl

width-none : width [] ≡ 3
unfolding width
width-none = refl

width_three : (syms : List FlatSym) → 3 ≤ width syms
width_three [] = omega (arith, width-none)
width_three (s ∷ ss) = let h = width_three ss in let e = width-cons s ss in omega (arith, h, e)

row_count : (rs : List FlatRow) (i : ℕ) → length (args_of (slice_get rs i)) ≤ arguments_count rs
row_count [] i = omega arith
row_count (r ∷ rs) zero = let e = count-cons r rs in omega (arith, e)
row_count (r ∷ rs) (suc i) = let h = row_count rs i in let e = count-cons r rs in omega (arith, h, e)

arguments_width : (syms : List FlatSym) (s i : ℕ) → length (arguments_at syms s i) ≤ width syms
arguments_width [] s i = omega arith
arguments_width (x ∷ xs) zero i = let h = row_count x.rows i in let e = width-cons x xs in omega (arith, h, e)
arguments_width (x ∷ xs) (suc s) i = let h = arguments_width xs s i in let e = width-cons x xs in omega (arith, h, e)

equations_count : (left right : List ℕ) → length (equations left right) ≤ length left
equations_count [] right = omega arith
equations_count (x ∷ xs) [] = omega arith
equations_count (x ∷ xs) (y ∷ ys) = let h = equations_count xs ys in omega (arith, h)

node_count : (o : Option Node) → length (node_parts o) ≤ 3
node_count (Some (Not a)) = omega arith
node_count (Some (And a b)) = omega arith
node_count (Some (Or a b)) = omega arith
node_count (Some (Ite c a b)) = omega arith
node_count (Some (Eq a b)) = omega arith
node_count o = omega arith

parts_count : (nodes : List Node) (syms : List FlatSym) (p : Wanted) (w : TheWay) → length (parts nodes syms p w) ≤ width syms
parts_count nodes syms (Truth i) w = let h = node_count (slice_get nodes i) in let e = width_three syms in omega (arith, h, e)
parts_count nodes syms (Equation a b) way.Plain = omega arith
parts_count nodes syms (Equation a b) (way.Control c) = let e = width_three syms in omega (arith, e)
parts_count nodes syms (Equation a b) (way.Arguments p) =
    let h = equations_count (arguments_at syms p.symbol p.left) (arguments_at syms p.symbol p.right) in
    let e = arguments_width syms p.symbol p.left in
    omega (arith, h, e)
parts_count nodes syms (Equation a b) way.Never = omega arith

module _ (nodes : List Node) (g : IsGraph nodes) (syms : List FlatSym) (root : ℕ) (flat : IsFlat nodes root syms) (marked : Option (List ℕ)) where
  -- parts weigh less than what rests on them
  parts_less : (p : Wanted) (w : TheWay) → IsWanted nodes p → IsWay nodes syms marked p w → 1 + weight_all (width syms) (map Enter (parts nodes syms p w)) < weight (width syms) (rank p)
  parts_less p w h k = by (rank p) refl (parts nodes syms p w) (parts_precede nodes g root syms flat marked p w h k) (parts_count nodes syms p w)
    where
      by : (n : ℕ) → rank p ≡ n → (xs : List Wanted) → ArePreceding nodes g p xs → length xs ≤ width syms → 1 + weight_all (width syms) (map Enter xs) < weight (width syms) n
      by n e [] h c = let a = weight-none (width syms) in let b = weight_two (width syms) n in omega (arith, a, b)
      by zero e (x ∷ xs) (APart _ _ q rest) c = absurd (omega (arith, q.before, e))
      by (suc n) e (x ∷ xs) h c =
          let a = weight_parts (width syms) nodes g p n e (x ∷ xs) h in
          let b = times_grows (length (x ∷ xs)) (width syms) (weight (width syms) n) c in
          let d = weight-suc (width syms) n in
          let t = weight_two (width syms) n in
          omega (arith, a, b, d, t)

  -- and so does the stack with what something that is entered puts in its place
  pub smaller-enter : (settled : List (Wanted × Done)) (visits rest new : List Visit) (p : Wanted) → IsWanted nodes p → visits ≡ rest ++ Enter p ∷ [] → Enters nodes syms marked settled rest new p
      → weight_all (width syms) new < weight_all (width syms) visits
  smaller-enter settled visits rest new p wanted is (inl h) = subst (λ l. weight_all (width syms) l < weight_all (width syms) visits) (sym h.0) (smaller-top (width syms) visits rest (Enter p) is)
  smaller-enter settled visits rest new p wanted is (inr h) =
      let k = width syms in
      let w = h.0 in
      let more = map Enter (parts nodes syms p w) in
      let size = ap (weight_all k) is ∙ weight_append k rest (Enter p ∷ []) in
      let one = weight-cons k (Enter p) [] in
      let none = weight-none k in
      let enter = weight_of-enter k p in
      let all = ap (weight_all k) h.2 ∙ weight_append k (rest ++ Finish p w ∷ []) more in
      let front = weight_append k rest (Finish p w ∷ []) in
      let last = weight-cons k (Finish p w) [] in
      let finish = weight_of-finish k p w in
      let less = parts_less p w wanted h.1 in
      omega (arith, size, one, none, enter, all, front, last, finish, less)

  -- what the stack owes when its top is gone, if that is settled
  owed_under : (settled settled' : List (Wanted × Done)) (visits rest : List Visit) (v : Visit) (k : ℕ) (q : Wanted) → visits ≡ rest ++ v ∷ [] → ((x : Wanted) → IsKnown settled x → IsKnown settled' x)
      → IsKnown settled' (wanted_of v) → IsOwed settled visits k q → IsOwed settled' rest k q
  owed_under settled settled' visits rest v k q is stays known (inl h) = inl (stays q h)
  owed_under settled settled' visits rest v k q is stays known (inr w) =
      elim (get-push rest v w.at w.visit (subst (λ l. slice_get l w.at ≡ Some w.visit) is w.there)) [
        | inl there ↦ inr (record { at = w.at; above = w.above; visit = w.visit; there = there; is = w.is })
        | inr top ↦ inl (subst (IsKnown settled') (ap wanted_of (sym top.1) ∙ w.is) known)
      ]

  -- the top is settled
  pub IsSettling-settled : (settled settled' : List (Wanted × Done)) (visits rest : List Visit) (v : Visit) (q : Wanted) → visits ≡ rest ++ v ∷ [] → ((x : Wanted) → IsKnown settled x → IsKnown settled' x)
      → IsKnown settled' (wanted_of v) → IsSettling nodes syms marked settled visits q → IsSettling nodes syms marked settled' rest q
  IsSettling-settled settled settled' visits rest v q is stays known h =
      let up = λ (k : ℕ) (u : Visit) (at : slice_get rest k ≡ Some u). (subst (λ l. slice_get l k ≡ Some u) (sym is) (get-front rest (v ∷ []) k u at)) in
      record {
        fits = λ k u at. h.fits k u (up k u at);
        ways = λ k p w at. h.ways k p w (up k (Finish p w) at);
        parts = λ k p w x at c. owed_under settled settled' visits rest v (k + 1) x is stays known (h.parts k p w x (up k (Finish p w) at) c);
        asked = owed_under settled settled' visits rest v 0 q is stays known h.asked;
      }

  get-last : (xs : List Visit) (x : Visit) → slice_get (xs ++ x ∷ []) (length xs) ≡ Some x
  get-last [] x = refl
  get-last (y ∷ xs) x = get-last xs x

  -- a visit of the same stands in the top's place, and others above it
  owed_over : (settled : List (Wanted × Done)) (visits rest more : List Visit) (u v : Visit) (k : ℕ) (q : Wanted) → visits ≡ rest ++ u ∷ [] → wanted_of v ≡ wanted_of u
      → IsOwed settled visits k q → IsOwed settled ((rest ++ v ∷ []) ++ more) k q
  owed_over settled visits rest more u v k q is same (inl s) = inl s
  owed_over settled visits rest more u v k q is same (inr w) =
      elim (get-push rest u w.at w.visit (subst (λ l. slice_get l w.at ≡ Some w.visit) is w.there)) [
        | inl there ↦ inr (record { at = w.at; above = w.above; visit = w.visit; there = get-front (rest ++ v ∷ []) more w.at w.visit (get-front rest (v ∷ []) w.at w.visit there); is = w.is })
        | inr top ↦ inr (record {
          at = w.at;
          above = w.above;
          visit = v;
          there = get-front (rest ++ v ∷ []) more w.at v (subst (λ n. slice_get (rest ++ v ∷ []) n ≡ Some v) (sym top.0) (get-last rest v));
          is = same ∙ ap wanted_of (sym top.1) ∙ w.is;
        })
      ]

  finish_wanted : (p q : Wanted) (c d : TheWay) → ◌≡◌ {A = Visit} (Finish p c) (Finish q d) → p ≡ q
  finish_wanted p q c d e = cc

  finish_way : (p q : Wanted) (c d : TheWay) → ◌≡◌ {A = Visit} (Finish p c) (Finish q d) → c ≡ d
  finish_way p q c d e = cc

  finish_enter : (p q : Wanted) (c : TheWay) → ◌≡◌ {A = Visit} (Finish p c) (Enter q) → ⊥
  finish_enter p q c e = cc

  -- the visit on top
  pub top_wanted : (settled : List (Wanted × Done)) (visits rest : List Visit) (v : Visit) (q : Wanted) → visits ≡ rest ++ v ∷ [] → IsSettling nodes syms marked settled visits q → IsWanted nodes (wanted_of v)
  top_wanted settled visits rest v q is h = h.fits (length rest) v (ap (λ l. slice_get l (length rest)) is ∙ get-last rest v)

  pub top_way : (settled : List (Wanted × Done)) (visits rest : List Visit) (p : Wanted) (w : TheWay) (q : Wanted) → visits ≡ rest ++ Finish p w ∷ [] → IsSettling nodes syms marked settled visits q
      → IsWay nodes syms marked p w
  top_way settled visits rest p w q is h = h.ways (length rest) p w (ap (λ l. slice_get l (length rest)) is ∙ get-last rest (Finish p w))

  known_all : (settled : List (Wanted × Done)) (xs : List Wanted) → ((x : Wanted) → Contains xs x → IsKnown settled x) → AreKnown settled xs
  known_all settled [] h = tt
  known_all settled (x ∷ xs) h = (h x (0, omega arith, refl), known_all settled xs (λ y c. h y (suc c.0, omega (arith, c.1), c.2)))

  pub top_parts : (settled : List (Wanted × Done)) (visits rest : List Visit) (p : Wanted) (w : TheWay) (q : Wanted) → visits ≡ rest ++ Finish p w ∷ [] → IsSettling nodes syms marked settled visits q
      → AreKnown settled (parts nodes syms p w)
  top_parts settled visits rest p w q is h = known_all settled (parts nodes syms p w) (λ x c.
      elim (h.parts (length rest) p w x (ap (λ l. slice_get l (length rest)) is ∙ get-last rest (Finish p w)) c) [
        | inl s ↦ s
        | inr a ↦
            let inside = slice_get_within visits a.at a.visit a.there in
            let size : length visits ≡ length rest + 1 = ap length is ∙ length_push rest (Finish p w) in
            absurd (omega (arith, inside, size, a.above))
      ])

  -- where an item of a list of visits that are entered comes from
  pub record IsEntered (xs : List Wanted) (v : Visit) : Type 0 where
    pub wanted : Wanted
    pub has : Contains xs wanted
    pub is : v ≡ Enter wanted

  entered : (xs : List Wanted) (i : ℕ) (v : Visit) → slice_get (map Enter xs) i ≡ Some v → IsEntered xs v
  entered [] i v h = absurd (none-some v h)
  entered (x ∷ xs) zero v h = record { wanted = x; has = (0, omega arith, refl); is = sym (same_visit h) }
    where
      same_visit : ◌≡◌ {A = Option Visit} (Some (Enter x)) (Some v) → Enter x ≡ v
      same_visit e = cc
  entered (x ∷ xs) (suc i) v h = let r = entered xs i v h in record { wanted = r.wanted; has = (suc r.has.0, omega (arith, r.has.1), r.has.2); is = r.is }

  -- where it stands
  pub record IsAt (xs : List Visit) (v : Visit) : Type 0 where
    pub place : ℕ
    pub there : slice_get xs place ≡ Some v

  entered_at : (xs : List Wanted) (x : Wanted) → Contains xs x → IsAt (map Enter xs) (Enter x)
  entered_at [] x (i, lt, e) = absurd (omega arith)
  entered_at (y ∷ xs) x (zero, lt, e) = record { place = 0; there = ap (λ z. Some (Enter z)) e }
  entered_at (y ∷ xs) x (suc i, lt, e) = let r = entered_at xs x (i, omega arith, e) in record { place = suc r.place; there = r.there }

  get-back : (xs ys : List Visit) (i : ℕ) (v : Visit) → slice_get ys i ≡ Some v → slice_get (xs ++ ys) (length xs + i) ≡ Some v
  get-back [] ys i v h = let e : i ≡ 0 + i = omega arith in subst (λ n. slice_get ys n ≡ Some v) e h
  get-back (x ∷ xs) ys i v h =
      let e : suc (length xs + i) ≡ length (x ∷ xs) + i = omega arith in
      subst (λ n. slice_get (x ∷ (xs ++ ys)) n ≡ Some v) e (get-back xs ys i v h)

  get-either : (xs ys : List Visit) (i : ℕ) (v : Visit) → slice_get (xs ++ ys) i ≡ Some v → (slice_get xs i ≡ Some v) ⊎ ((j : ℕ) × (slice_get ys j ≡ Some v))
  get-either [] ys i v h = inr (i, h)
  get-either (x ∷ xs) ys zero v h = inl h
  get-either (x ∷ xs) ys (suc i) v h = get-either xs ys i v h

  preceding_wanted : (whole : Wanted) (xs : List Wanted) → ArePreceding nodes g whole xs → (x : Wanted) → Contains xs x → IsWanted nodes x
  preceding_wanted whole [] h x (i, lt, e) = absurd (omega arith)
  preceding_wanted whole (y ∷ xs) (APart _ _ p rest) x (zero, lt, e) = subst (IsWanted nodes) e p.wanted
  preceding_wanted whole (y ∷ xs) (APart _ _ p rest) x (suc i, lt, e) = preceding_wanted whole xs rest x (i, omega arith, e)

  -- something is put on the stack with what it rests on above it
  IsSettling-enter : (settled : List (Wanted × Done)) (visits rest new : List Visit) (p : Wanted) (w : TheWay) (q : Wanted) → visits ≡ rest ++ Enter p ∷ [] → IsWay nodes syms marked p w
      → new ≡ (rest ++ Finish p w ∷ []) ++ map Enter (parts nodes syms p w) → IsSettling nodes syms marked settled visits q → IsSettling nodes syms marked settled new q
  IsSettling-enter settled visits rest new p w q is control made h = record {
    fits = λ k v at. elim (cases k v at) [
      | inl there ↦ h.fits k v (old k v there)
      | inr (inl top) ↦ subst (λ u. IsWanted nodes (wanted_of u)) (sym top.1) wanted
      | inr (inr e) ↦ subst (λ u. IsWanted nodes (wanted_of u)) (sym e.is) (preceding_wanted p xs precede e.wanted e.has)
    ];
    ways = λ k r d at. elim (cases k (Finish r d) at) [
      | inl there ↦ h.ways k r d (old k (Finish r d) there)
      | inr (inl top) ↦ subst (λ s. IsWay nodes syms marked s d) (sym (finish_wanted r p d w top.1)) (subst (IsWay nodes syms marked p) (sym (finish_way r p d w top.1)) control)
      | inr (inr e) ↦ absurd (finish_enter r e.wanted d e.is)
    ];
    parts = λ k r d x at c. elim (cases k (Finish r d) at) [
      | inl there ↦ over (k + 1) x (h.parts k r d x (old k (Finish r d) there) c)
      | inr (inl top) ↦
          inr (awaits (k + 1) x (omega (arith, top.0))
          (subst (λ s. Contains (parts nodes syms s w) x) (finish_wanted r p d w top.1) (subst (λ f. Contains (parts nodes syms r f) x) (finish_way r p d w top.1) c)))
      | inr (inr e) ↦ absurd (finish_enter r e.wanted d e.is)
    ];
    asked = over 0 q h.asked;
  }
    where
      one : List Visit
      one = rest ++ Finish p w ∷ []

      xs : List Wanted
      xs = parts nodes syms p w

      wanted : IsWanted nodes p
      wanted = top_wanted settled visits rest (Enter p) q is h

      precede : ArePreceding nodes g p xs
      precede = parts_precede nodes g root syms flat marked p w wanted control

      old : (k : ℕ) (v : Visit) → slice_get rest k ≡ Some v → slice_get visits k ≡ Some v
      old k v there = ap (λ l. slice_get l k) is ∙ get-front rest (Enter p ∷ []) k v there

      over : (k : ℕ) (r : Wanted) → IsOwed settled visits k r → IsOwed settled new k r
      over k r o = subst (λ l. IsOwed settled l k r) (sym made) (owed_over settled visits rest (map Enter xs) (Enter p) (Finish p w) k r is refl o)

      cases : (k : ℕ) (v : Visit) → slice_get new k ≡ Some v → (slice_get rest k ≡ Some v) ⊎ (((k ≡ length rest) × (v ≡ Finish p w)) ⊎ IsEntered xs v)
      cases k v at = elim (get-either one (map Enter xs) k v (ap (λ l. slice_get l k) (sym made) ∙ at)) [
        | inl a ↦ elim (get-push rest (Finish p w) k v a) [ inl there ↦ inl there | inr top ↦ inr (inl top) ]
        | inr b ↦ inr (inr (entered xs b.0 v b.1))
      ]

      awaits : (k : ℕ) (x : Wanted) → k ≤ length rest + 1 → Contains xs x → IsAwaited new k x
      awaits k x le c =
          let a = entered_at xs x c in
          let size : length one ≡ length rest + 1 = length_push rest (Finish p w) in
          record {
            at = length one + a.place;
            above = omega (arith, size, le);
            visit = Enter x;
            there = ap (λ l. slice_get l (length one + a.place)) made ∙ get-back one (map Enter xs) a.place (Enter x) a.there;
            is = refl;
          }

  -- something is entered
  pub IsSettling-enters : (settled : List (Wanted × Done)) (visits rest new : List Visit) (p q : Wanted) → visits ≡ rest ++ Enter p ∷ [] → Enters nodes syms marked settled rest new p
      → IsSettling nodes syms marked settled visits q → IsSettling nodes syms marked settled new q
  IsSettling-enters settled visits rest new p q is (inl n) h =
      subst (λ l. IsSettling nodes syms marked settled l q) (sym n.0) (IsSettling-settled settled settled visits rest (Enter p) q is (λ x k. k) n.1 h)
  IsSettling-enters settled visits rest new p q is (inr n) h = IsSettling-enter settled visits rest new p n.0 q is n.1 n.2 h

  -- at first it is to be entered
  pub IsSettling-start : (settled : List (Wanted × Done)) (visits : List Visit) (q : Wanted) → visits ≡ Enter q ∷ [] → IsWanted nodes q → IsSettling nodes syms marked settled visits q
  IsSettling-start settled visits q is wanted = subst (λ l. IsSettling nodes syms marked settled l q) (sym is) (record {
    fits = λ k v at. elim (get-push [] (Enter q) k v at) [ inl n ↦ absurd (none-some v n) | inr t ↦ subst (λ u. IsWanted nodes (wanted_of u)) (sym t.1) wanted ];
    ways = λ k p c at. elim (get-push [] (Enter q) k (Finish p c) at) [ inl n ↦ absurd (none-some (Finish p c) n) | inr t ↦ absurd (finish_enter p q c t.1) ];
    parts = λ k p c x at i. elim (get-push [] (Enter q) k (Finish p c) at) [ inl n ↦ absurd (none-some (Finish p c) n) | inr t ↦ absurd (finish_enter p q c t.1) ];
    asked = inr (record { at = 0; above = omega arith; visit = Enter q; there = refl; is = refl });
  })

  -- at last it is settled
  pub IsSettling-end : (settled : List (Wanted × Done)) (visits : List Visit) (q : Wanted) → visits ≡ [] → IsSettling nodes syms marked settled visits q → IsKnown settled q
  IsSettling-end settled visits q none h = elim h.asked [
    | inl s ↦ s
    | inr w ↦ absurd (none-some w.visit (ap (λ l. slice_get l w.at) (sym none) ∙ w.there))
  ]
