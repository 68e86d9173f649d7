-- Walks from terms, by those from their children, and what is left to do of one.
use Rattle.std.proofs.Common.{◌≢◌, inl, inr, slice_set, true≢false, eqb-true, eq-eqb, get_or-set_same, get_or-set_other, length-set, replicate, ◌≡◌, ℕ, ◌+◌, ◌<◌, Bool, true, false, ◌==◌, ◌||◌, if◌then◌else◌, List, [], ◌∷◌, ◌++◌, length, slice_get, slice_index_or, take, drop, Some, Contains, refl, ap, sym, ◌∙◌, subst, arith}
use Rattle.std.specs.List.{sum_by}
use Rattle.std.proofs.lemmas.Option.{slice_get_within}
use Rattle.std.proofs.lemmas.List.{get_or-replicate, length-replicate, length-take-le}
use Rattle.std.proofs.lemmas.List.Folds.{list_any-append}
use Rattle.std.proofs.lemmas.List.Elements.{Contains-append_cases, Contains-append_left, Contains-append_right}
use Rattle.std.proofs.lemmas.List.Sums.{sum_by-append, sum_by-cons, sum_by_push}
use Rattle.bd_list.specs.Grown.{grown}
use Rattle.bd_list.proofs.Grown.{get-grown_front, length-grown}
use Rattle.bd_terms.specs.declared.node.Node.{Node}
use Rattle.bd_terms.specs.Graph.{IsGraph, children}
use Rattle.bd_terms.proofs.Places.{around, grown-get}
use Rattle.bd_terms.proofs.Reaching.{children-below, mark_at}
use Rattle.bd_walk.specs.Walk.{Walk, is_finished, walk, walk_all, walk_at, walk_from, walks}
use Rattle.bd_walk.specs.inner.Visits.{entries}
use Rattle.bd_walk.specs.declared.depth_first.Visit.{Visit}
use Rattle.bd_walk.specs.declared.depth_first.Visit.TheVariants.{Enter, Finish}
use Rattle.bd_list.proofs.Membership.{Contains-one}

or-true : (b : Bool) → (b || true) ≡ true
or-true true = refl
or-true false = refl

or-false : (b : Bool) → (b || false) ≡ b
or-false true = refl
or-false false = refl

-- values over the first nodes are those over all
front-at : {Y : Type 0} → (f : List Y → Node → Y) (nodes : List Node) (i c : ℕ) (node : Node) (d : Y) → slice_get nodes i ≡ Some node → c < i
    → slice_index_or (grown f [] (take i nodes)) c d ≡ slice_index_or (grown f [] nodes) c d
front-at f nodes i c node d there lt =
    let inside : i < length nodes = slice_get_within nodes i node there in
    let size : length (take i nodes) ≡ i = length-take-le i nodes (omega arith) in
    sym (ap (λ l. slice_index_or (grown f [] l) c d) (around nodes i node there)
    ∙ get-grown_front f (take i nodes) (node ∷ drop (i + 1) nodes) c d (omega (arith, size, lt)))

walk_all-same : (xs ys : List Walk) (ids finished : List ℕ) → ((c : ℕ) → Contains ids c → walk_at xs c ≡ walk_at ys c) → walk_all xs ids finished ≡ walk_all ys ids finished
walk_all-same xs ys [] finished h = refl
walk_all-same xs ys (id ∷ ids) finished h =
    ap (λ w. walk_all xs ids (w finished)) (h id (0, omega arith, refl))
    ∙ walk_all-same xs ys ids (walk_at ys id finished) (λ c p. h c (Contains-append_right (id ∷ []) ids c p))

-- a walk from a term, by those from its children
pub walk_at-get : (nodes : List Node) → IsGraph nodes → (id : ℕ) (node : Node) → slice_get nodes id ≡ Some node → (finished : List ℕ)
    → walk_at (walks nodes) id finished ≡ (if is_finished finished id then finished else walk_all (walks nodes) (children node) finished ++ id ∷ [])
walk_at-get nodes g id node there finished =
    let inside : id < length nodes = slice_get_within nodes id node there in
    let before : List Walk = walks (take id nodes) in
    let size : length before ≡ id = omega (arith, length-grown walk_from [] (take id nodes), length-take-le id nodes (omega arith)) in
    let below : walk_all before (children node) finished ≡ walk_all (walks nodes) (children node) finished =
    walk_all-same before (walks nodes) (children node) finished
    (λ c p. front-at walk_from nodes id c node (λ l. l) there (children-below nodes g id node there c p)) in
    ap (λ w. w finished) (grown-get walk_from nodes id node (λ l. l) there)
    ∙ ap (λ n. if is_finished finished n then finished else walk_all before (children node) finished ++ n ∷ []) size
    ∙ ap (λ l. if is_finished finished id then finished else l ++ id ∷ []) below

-- what a visit makes of the terms that are finished
pub after : List Walk → Visit → Walk
after ws (Enter id) finished = walk_at ws id finished
after ws (Finish id) finished = finished ++ id ∷ []

-- what the visits of a stack make of them, the top first
pub resumed : List Walk → List Visit → Walk
unfolding after
resumed ws [] finished = finished
resumed ws (v ∷ above) finished = after ws v (resumed ws above finished)

pub resumed-append : (ws : List Walk) (xs ys : List Visit) (finished : List ℕ) → resumed ws (xs ++ ys) finished ≡ resumed ws xs (resumed ws ys finished)
unfolding resumed
resumed-append ws [] ys finished = refl
resumed-append ws (x ∷ xs) ys finished = ap (after ws x) (resumed-append ws xs ys finished)

pub resumed-entries : (ws : List Walk) (ids finished : List ℕ) → resumed ws (entries ids) finished ≡ walk_all ws ids finished
unfolding resumed after
resumed-entries ws [] finished = refl
resumed-entries ws (id ∷ ids) finished =
    resumed-append ws (entries ids) (Enter id ∷ []) finished ∙ resumed-entries ws ids (walk_at ws id finished)

-- how many visits a walk from a term takes at most, and one more
weight_from : List ℕ → Node → ℕ
weight_from done node = 2 + sum_by (λ c. slice_index_or done c 0) (children node)

pub weights : List Node → List ℕ
unfolding weight_from
weights nodes = grown weight_from [] nodes

pub weight : List ℕ → Visit → ℕ
weight ws (Enter id) = slice_index_or ws id 0
weight ws (Finish id) = 1

sum-same : (f g : ℕ → ℕ) (ids : List ℕ) → ((c : ℕ) → Contains ids c → f c ≡ g c) → sum_by f ids ≡ sum_by g ids
sum-same f g [] h = refl
sum-same f g (id ∷ ids) h =
    let head = h id (0, omega arith, refl) in
    let tail = sum-same f g ids (λ c p. h c (Contains-append_right (id ∷ []) ids c p)) in
    omega (arith, head, tail, sum_by-cons f id ids, sum_by-cons g id ids)

weight-get : (nodes : List Node) → IsGraph nodes → (id : ℕ) (node : Node) → slice_get nodes id ≡ Some node
    → slice_index_or (weights nodes) id 0 ≡ 2 + sum_by (λ c. slice_index_or (weights nodes) c 0) (children node)
unfolding weights weight_from
weight-get nodes g id node there =
    grown-get weight_from nodes id node 0 there
    ∙ ap (λ n. 2 + n) (sum-same (λ c. slice_index_or (grown weight_from [] (take id nodes)) c 0) (λ c. slice_index_or (weights nodes) c 0) (children node)
    (λ c p. front-at weight_from nodes id c node 0 there (children-below nodes g id node there c p)))

weight-entries : (ws : List ℕ) (ids : List ℕ) → sum_by (weight ws) (entries ids) ≡ sum_by (λ c. slice_index_or ws c 0) ids
unfolding weight
weight-entries ws [] = refl
weight-entries ws (id ∷ ids) =
    let push = sum_by_push (weight ws) (entries ids) (Enter id) in
    let cons = sum_by-cons (λ c. slice_index_or ws c 0) id ids in
    let rest = weight-entries ws ids in
    omega (arith, push, cons, rest)

-- how many visits a stack takes at most, and one more for each
pub weight_all : List Node → List Visit → ℕ
unfolding weight weights
weight_all nodes visits = sum_by (weight (weights nodes)) visits

-- the term of a visit
abbrev pub place_of : Visit → ℕ
place_of (Enter id) = id
place_of (Finish id) = id

-- what a walk keeps: which terms are finished, and that the visits of its stack make of them what the walk from the root
-- finishes
pub record IsWalking (nodes : List Node) (root : ℕ) (marks : List Bool) (finished : List ℕ) (visits : List Visit) : Type 0 where
  pub size : length marks ≡ length nodes
  pub marked : (id : ℕ) → id < length nodes → mark_at marks id ≡ is_finished finished id
  pub inside : (v : Visit) → Contains visits v → place_of v < length nodes
  pub remains : resumed (walks nodes) visits finished ≡ walk nodes root

pub IsWalking-start : (nodes : List Node) (root : ℕ) (marks : List Bool) → root < length nodes → marks ≡ replicate (length nodes) false → IsWalking nodes root marks [] (Enter root ∷ [])
unfolding resumed after
IsWalking-start nodes root marks inside e = record {
  size = ap length e ∙ length-replicate (length nodes) false;
  marked = λ id h. ap (λ l. mark_at l id) e ∙ get_or-replicate (length nodes) id false false h;
  inside = λ v p. subst (λ x. place_of x < length nodes) (Contains-one (Enter root) v p) inside;
  remains = refl;
}

-- the visit on top, and those under it
pub IsWalking-top : (nodes : List Node) (root : ℕ) (marks : List Bool) (finished : List ℕ) (visits rest : List Visit) (v : Visit) → IsWalking nodes root marks finished visits → visits ≡ rest ++ v ∷ [] → place_of v < length nodes
IsWalking-top nodes root marks finished visits rest v w e = w.inside v (subst (λ l. Contains l v) (sym e) (Contains-append_right rest (v ∷ []) v (0, omega arith, refl)))

popped : (nodes : List Node) (root : ℕ) (marks : List Bool) (finished : List ℕ) (visits rest : List Visit) (v : Visit) → IsWalking nodes root marks finished visits → visits ≡ rest ++ v ∷ []
    → resumed (walks nodes) rest (after (walks nodes) v finished) ≡ walk nodes root
unfolding resumed
popped nodes root marks finished visits rest v w e =
    sym (resumed-append (walks nodes) rest (v ∷ []) finished) ∙ ap (λ l. resumed (walks nodes) l finished) (sym e) ∙ w.remains

under : (nodes : List Node) (root : ℕ) (marks : List Bool) (finished : List ℕ) (visits rest : List Visit) (v : Visit) → IsWalking nodes root marks finished visits → visits ≡ rest ++ v ∷ []
    → (u : Visit) → Contains rest u → place_of u < length nodes
under nodes root marks finished visits rest v w e u p = w.inside u (subst (λ l. Contains l u) (sym e) (Contains-append_left rest (v ∷ []) u p))

-- a visit to a finished term finishes nothing
pub IsWalking-skip : (nodes : List Node) → IsGraph nodes → (root : ℕ) (marks : List Bool) (finished : List ℕ) (visits rest : List Visit) (id : ℕ) (node : Node) → IsWalking nodes root marks finished visits → visits ≡ rest ++ Enter id ∷ []
    → slice_get nodes id ≡ Some node → mark_at marks id ≡ true → IsWalking nodes root marks finished rest
unfolding after
IsWalking-skip nodes g root marks finished visits rest id node w e there mark = record {
  size = w.size;
  marked = w.marked;
  inside = under nodes root marks finished visits rest (Enter id) w e;
  remains =
      let is : is_finished finished id ≡ true = sym (w.marked id (slice_get_within nodes id node there)) ∙ mark in
      ap (resumed (walks nodes) rest) (sym (walk_at-get nodes g id node there finished
      ∙ ap (λ t. if t then finished else walk_all (walks nodes) (children node) finished ++ id ∷ []) is))
      ∙ popped nodes root marks finished visits rest (Enter id) w e;
}

Contains-entries : (ids : List ℕ) (v : Visit) → Contains (entries ids) v → (c : ℕ) × Contains ids c × (v ≡ Enter c)
Contains-entries [] v p = absurd (omega (arith, p.1))
Contains-entries (id ∷ ids) v p = elim (Contains-append_cases (entries ids) (Enter id ∷ []) v p) [
  | inl q ↦ let r = Contains-entries ids v q in (r.0, Contains-append_right (id ∷ []) ids r.0 r.1, r.2)
  | inr q ↦ (id, (0, omega arith, refl), sym (Contains-one (Enter id) v q))
]

-- a visit to another waits for those to its children
pub IsWalking-enter : (nodes : List Node) → IsGraph nodes → (root : ℕ) (marks : List Bool) (finished : List ℕ) (visits rest visits' : List Visit) (id : ℕ) (node : Node) → IsWalking nodes root marks finished visits → visits ≡ rest ++ Enter id ∷ []
    → slice_get nodes id ≡ Some node → mark_at marks id ≡ false → visits' ≡ (rest ++ Finish id ∷ []) ++ entries (children node) → IsWalking nodes root marks finished visits'
unfolding resumed after
IsWalking-enter nodes g root marks finished visits rest visits' id node w e there mark new = record {
  size = w.size;
  marked = w.marked;
  inside = λ u p. elim (Contains-append_cases (rest ++ Finish id ∷ []) (entries (children node)) u (subst (λ l. Contains l u) new p)) [
    | inl q ↦ elim (Contains-append_cases rest (Finish id ∷ []) u q) [
      | inl r ↦ under nodes root marks finished visits rest (Enter id) w e u r
      | inr r ↦ subst (λ x. place_of x < length nodes) (Contains-one (Finish id) u r) (slice_get_within nodes id node there)
    ]
    | inr q ↦
        let r = Contains-entries (children node) u q in
        let below = children-below nodes g id node there r.0 r.1 in
        let inside = slice_get_within nodes id node there in
        subst (λ x. place_of x < length nodes) (sym r.2) (omega (arith, below, inside))
  ];
  remains =
      let ws = walks nodes in
      let is : is_finished finished id ≡ false = sym (w.marked id (slice_get_within nodes id node there)) ∙ mark in
      ap (λ l. resumed ws l finished) new
      ∙ resumed-append ws (rest ++ Finish id ∷ []) (entries (children node)) finished
      ∙ resumed-append ws rest (Finish id ∷ []) (resumed ws (entries (children node)) finished)
      ∙ ap (λ l. resumed ws rest (l ++ id ∷ [])) (resumed-entries ws (children node) finished)
      ∙ ap (resumed ws rest) (sym (walk_at-get nodes g id node there finished
      ∙ ap (λ t. if t then finished else walk_all ws (children node) finished ++ id ∷ []) is))
      ∙ popped nodes root marks finished visits rest (Enter id) w e;
}

set-mark_by : (marks : List Bool) (id k : ℕ) (b : Bool) → (id == k) ≡ b → k < length marks → mark_at (slice_set marks id true) k ≡ (mark_at marks k || b)
set-mark_by marks id k true e inside =
    subst (λ j. mark_at (slice_set marks j true) k ≡ true) (sym (eqb-true id k e)) (get_or-set_same marks k true false inside) ∙ sym (or-true (mark_at marks k))
set-mark_by marks id k false e inside =
    let other : k ≢ id = λ same. true≢false (sym (eq-eqb id k (sym same)) ∙ e) in
    get_or-set_other marks id k true false other ∙ sym (or-false (mark_at marks k))

-- a term whose children are finished is finished next
pub IsWalking-finish : (nodes : List Node) (root : ℕ) (marks marks' : List Bool) (finished finished' : List ℕ) (visits rest : List Visit) (id : ℕ) → IsWalking nodes root marks finished visits → visits ≡ rest ++ Finish id ∷ []
    → marks' ≡ slice_set marks id true → finished' ≡ finished ++ id ∷ [] → IsWalking nodes root marks' finished' rest
unfolding after
IsWalking-finish nodes root marks marks' finished finished' visits rest id w e set push = record {
  size = ap length set ∙ length-set marks id true ∙ w.size;
  marked = λ k inside.
      ap (λ l. mark_at l k) set
      ∙ set-mark_by marks id k (id == k) refl (omega (arith, inside, w.size))
      ∙ ap (λ b. b || id == k) (w.marked k inside)
      ∙ sym (ap (λ l. is_finished l k) push ∙ list_any-append (λ x. x == k) finished (id ∷ []) ∙ ap (λ b. is_finished finished k || b) (or-false (id == k)));
  inside = under nodes root marks finished visits rest (Finish id) w e;
  remains = ap (resumed (walks nodes) rest) push ∙ popped nodes root marks finished visits rest (Finish id) w e;
}

-- where no visit is left, what the walk finishes is finished
pub ended : (nodes : List Node) (root : ℕ) (marks : List Bool) (finished : List ℕ) (visits : List Visit) → IsWalking nodes root marks finished visits → visits ≡ [] → finished ≡ walk nodes root
unfolding resumed
ended nodes root marks finished visits w e = ap (λ l. resumed (walks nodes) l finished) (sym e) ∙ w.remains

-- each visit makes what is left to do less
pub skip-smaller : (nodes : List Node) → IsGraph nodes → (visits rest : List Visit) (id : ℕ) (node : Node) → slice_get nodes id ≡ Some node → visits ≡ rest ++ Enter id ∷ [] → weight_all nodes rest < weight_all nodes visits
unfolding weight_all weight
skip-smaller nodes g visits rest id node there e =
    let push = sum_by_push (weight (weights nodes)) rest (Enter id) in
    let one = weight-get nodes g id node there in
    let same = ap (weight_all nodes) e in
    omega (arith, push, one, same)

pub enter-smaller : (nodes : List Node) → IsGraph nodes → (visits rest visits' : List Visit) (id : ℕ) (node : Node) → slice_get nodes id ≡ Some node → visits ≡ rest ++ Enter id ∷ []
    → visits' ≡ (rest ++ Finish id ∷ []) ++ entries (children node) → weight_all nodes visits' < weight_all nodes visits
unfolding weight_all weight
enter-smaller nodes g visits rest visits' id node there e new =
    let push = sum_by_push (weight (weights nodes)) rest (Enter id) in
    let finish = sum_by_push (weight (weights nodes)) rest (Finish id) in
    let all = sum_by-append (weight (weights nodes)) (rest ++ Finish id ∷ []) (entries (children node)) in
    let below = weight-entries (weights nodes) (children node) in
    let one = weight-get nodes g id node there in
    let same = ap (weight_all nodes) e in
    let same' = ap (weight_all nodes) new in
    omega (arith, push, finish, all, below, one, same, same')

pub finish-smaller : (nodes : List Node) (visits rest : List Visit) (id : ℕ) → visits ≡ rest ++ Finish id ∷ [] → weight_all nodes rest < weight_all nodes visits
unfolding weight_all weight
finish-smaller nodes visits rest id e =
    let push = sum_by_push (weight (weights nodes)) rest (Finish id) in
    let same = ap (weight_all nodes) e in
    omega (arith, push, same)
