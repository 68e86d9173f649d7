-- One pass downwards finds the ways in which walks come to each term.
use Rattle.std.proofs.Common.{◌≡◌, ◌≢◌, ◌↔◌, ℕ, zero, suc, ◌<◌, ◌≤◌, ◌⊎◌, inl, inr, Bool, true, false, ◌||◌, ◌==◌, List, [], ◌∷◌, length, slice_get, slice_index_or, slice_set, Some, Contains, refl, ap, sym, ◌∙◌, subst, arith, true≢false, eqb-true, eq-eqb, get_or-set_same, get_or-set_other, length-set, replicate, take, ◌+◌, ◌++◌, map}
use Rattle.std.proofs.lemmas.Option.{slice_get_within, none-some, same_Some, slice_get_past}
use Rattle.std.proofs.lemmas.List.{length-replicate, map-append, take_more}
use Rattle.bd_terms.specs.declared.node.Node.{Node}
use Rattle.bd_terms.specs.Graph.{IsGraph, children}
use Rattle.bd_terms.specs.Reaches.{Reaches}
use Rattle.bd_terms.specs.Reaches.{Root as RootOf, Child}
use Rattle.bd_terms.proofs.Reaching.{children-below}
use Rattle.bd_diverse.specs.declared.occurrences.Occurrences.{Occurrences}
use Rattle.bd_diverse.specs.Positive.{Way, Even, Odd, Control, Compared, Free, Walks, Root, Step, steps}
use Rattle.bd_diverse.specs.inner.Walked.{flows, freely, only_free, has_way, is_any, joined, no_way, only_even, ways_at, with_flows, with_ways}
use Rattle.bd_diverse.proofs.Walking.{Hands, any_from, child_step, flow_complete, flow_sound, step_child}
use Rattle.bd_list.proofs.Membership.{first, Contains-cons, Contains-none}
use Rattle.bd_list.proofs.Numbers.{le-cases}
use Rattle.bd_list.proofs.Truths.{or_left, or_right, or_cases}

-- whether the mark at a place has the way
abbrev pub has_at : List Occurrences → ℕ → Way → Bool
has_at marks k way = has_way (ways_at marks k) way

has-joined : (v w : Occurrences) (way : Way) → has_way (joined v w) way ≡ (has_way v way || has_way w way)
has-joined v w Even = refl
has-joined v w Odd = refl
has-joined v w Control = refl
has-joined v w Compared = refl
has-joined v w Free = refl

none_has : (way : Way) → has_way no_way way ≡ true → ⊥
none_has Even h = true≢false (sym h)
none_has Odd h = true≢false (sym h)
none_has Control h = true≢false (sym h)
none_has Compared h = true≢false (sym h)
none_has Free h = true≢false (sym h)

pub has_inside : (marks : List Occurrences) (k : ℕ) (way : Way) → has_at marks k way ≡ true → k < length marks
has_inside [] k way h = absurd (none_has way h)
has_inside (m ∷ marks) zero way h = omega arith
has_inside (m ∷ marks) (suc k) way h = let below = has_inside marks k way h in omega (arith, below)

module _ (marks : List Occurrences) (c : ℕ) (w : Occurrences) (k : ℕ) (way : Way) where
  set-cases_by : (b : Bool) → (c == k) ≡ b → has_at (with_ways marks c w) k way ≡ true → (has_at marks k way ≡ true) ⊎ ((c ≡ k) × (has_way w way ≡ true))
  set-cases_by true e h =
      let same = eqb-true c k e in
      let inside : k < length marks = let lt = has_inside (with_ways marks c w) k way h in omega (arith, lt, length-set marks c (joined (ways_at marks c) w)) in
      let new : ways_at (with_ways marks c w) k ≡ joined (ways_at marks c) w =
      subst (λ j. slice_index_or (slice_set marks j (joined (ways_at marks c) w)) k no_way ≡ joined (ways_at marks c) w) (sym same) (get_or-set_same marks k (joined (ways_at marks c) w) no_way inside) in
      elim (or_cases (has_way (ways_at marks c) way) (has_way w way) (sym (has-joined (ways_at marks c) w way) ∙ ap (λ x. has_way x way) (sym new) ∙ h)) [
        | inl p ↦ inl (ap (λ j. has_at marks j way) (sym same) ∙ p)
        | inr p ↦ inr (same, p)
      ]
  set-cases_by false e h =
      let other : k ≢ c = λ same. true≢false (sym (eq-eqb c k (sym same)) ∙ e) in
      inl (sym (ap (λ x. has_way x way) (get_or-set_other marks c k (joined (ways_at marks c) w) no_way other)) ∙ h)

  -- a way at a place was there, or is among those put there
  pub set-cases : has_at (with_ways marks c w) k way ≡ true → (has_at marks k way ≡ true) ⊎ ((c ≡ k) × (has_way w way ≡ true))
  set-cases h = set-cases_by (c == k) refl h

  set-new : c ≡ k → k < length marks → has_at (with_ways marks c w) k way ≡ (has_at marks k way || has_way w way)
  set-new same inside =
      ap (λ x. has_way x way) (subst (λ j. slice_index_or (slice_set marks j (joined (ways_at marks j) w)) k no_way ≡ joined (ways_at marks k) w) (sym same)
      (get_or-set_same marks k (joined (ways_at marks k) w) no_way inside))
      ∙ has-joined (ways_at marks k) w way

  set-stays_by : (b : Bool) → (c == k) ≡ b → has_at marks k way ≡ true → has_at (with_ways marks c w) k way ≡ true
  set-stays_by true e h = set-new (eqb-true c k e) (has_inside marks k way h) ∙ or_left (has_at marks k way) (has_way w way) h
  set-stays_by false e h =
      let other : k ≢ c = λ same. true≢false (sym (eq-eqb c k (sym same)) ∙ e) in
      ap (λ x. has_way x way) (get_or-set_other marks c k (joined (ways_at marks c) w) no_way other) ∙ h

  pub set-stays : has_at marks k way ≡ true → has_at (with_ways marks c w) k way ≡ true
  set-stays h = set-stays_by (c == k) refl h

  pub set-there : c ≡ k → k < length marks → has_way w way ≡ true → has_at (with_ways marks c w) k way ≡ true
  set-there same inside h = set-new same inside ∙ or_right (has_at marks k way) (has_way w way) h

pub length-flows : (marks : List Occurrences) (fs : List (ℕ × Occurrences)) → length (with_flows marks fs) ≡ length marks
length-flows marks [] = refl
length-flows marks (f ∷ fs) = length-flows (with_ways marks f.0 f.1) fs ∙ length-set marks f.0 (joined (ways_at marks f.0) f.1)

flows-stay : (marks : List Occurrences) (fs : List (ℕ × Occurrences)) (k : ℕ) (way : Way) → has_at marks k way ≡ true → has_at (with_flows marks fs) k way ≡ true
flows-stay marks [] k way h = h
flows-stay marks (f ∷ fs) k way h = flows-stay (with_ways marks f.0 f.1) fs k way (set-stays marks f.0 f.1 k way h)

-- a flow to the place with the way
record Flowed (fs : List (ℕ × Occurrences)) (k : ℕ) (way : Way) : Type 0 where
  pub flow : ℕ × Occurrences
  pub among : Contains fs flow
  pub to : flow.0 ≡ k
  pub has : has_way flow.1 way ≡ true

later : {X : Type 0} (x : X) (xs : List X) (y : X) → Contains xs y → Contains (x ∷ xs) y
later x xs y (k, h, e) = (suc k, omega arith, e)

flows-cases : (marks : List Occurrences) (fs : List (ℕ × Occurrences)) (k : ℕ) (way : Way) → has_at (with_flows marks fs) k way ≡ true → (has_at marks k way ≡ true) ⊎ Flowed fs k way
flows-cases marks [] k way h = inl h
flows-cases marks (f ∷ fs) k way h = elim (flows-cases (with_ways marks f.0 f.1) fs k way h) [
  | inl p ↦ elim (set-cases marks f.0 f.1 k way p) [
    | inl q ↦ inl q
    | inr q ↦ inr (record { flow = f; among = first f fs; to = q.0; has = q.1 })
  ]
  | inr p ↦ inr (record { flow = p.flow; among = later f fs p.flow p.among; to = p.to; has = p.has })
]

flows-there : (marks : List Occurrences) (fs : List (ℕ × Occurrences)) (k : ℕ) (way : Way) (w : Occurrences) → k < length marks → Contains fs (k, w) → has_way w way ≡ true → has_at (with_flows marks fs) k way ≡ true
flows-there marks [] k way w inside p h = absurd (Contains-none (k, w) p)
flows-there marks (f ∷ fs) k way w inside p h = elim (Contains-cons f fs (k, w) p) [
  | inl e ↦
      flows-stay (with_ways marks f.0 f.1) fs k way
      (set-there marks f.0 f.1 k way (ap (λ (x : ℕ × Occurrences). x.0) e) inside (ap (λ (x : ℕ × Occurrences). has_way x.1 way) e ∙ h))
  | inr q ↦ flows-there (with_ways marks f.0 f.1) fs k way w (omega (arith, inside, length-set marks f.0 (joined (ways_at marks f.0) f.1))) q h
]

-- the ways of a pass downwards that has come to a place: each is that of a walk, and from that place on what walks go on
-- to is marked too
pub record IsWalked (nodes : List Node) (root place : ℕ) (marks : List Occurrences) : Type 0 where
  pub size : length marks ≡ length nodes
  pub rooted : has_at marks root Even ≡ true
  pub sound : (way : Way) (k : ℕ) → has_at marks k way ≡ true → Walks nodes root way k
  pub closed : (way : Way) (k : ℕ) (node : Node) → place ≤ k → has_at marks k way ≡ true → slice_get nodes k ≡ Some node
      → (next : Way) (c : ℕ) → Contains (steps way node) (next, c) → has_at marks c next ≡ true

unmarked : (n k : ℕ) (way : Way) → has_at (replicate n no_way) k way ≡ true → ⊥
unmarked zero k way h = none_has way h
unmarked (suc n) zero way h = none_has way h
unmarked (suc n) (suc k) way h = unmarked n k way h

even_walk : (nodes : List Node) (root : ℕ) (way : Way) → has_way only_even way ≡ true → Walks nodes root way root
even_walk nodes root Even h = Root
even_walk nodes root Odd h = absurd (true≢false (sym h))
even_walk nodes root Control h = absurd (true≢false (sym h))
even_walk nodes root Compared h = absurd (true≢false (sym h))
even_walk nodes root Free h = absurd (true≢false (sym h))

root_sound : (nodes : List Node) (root : ℕ) (way : Way) (k : ℕ) (b : Bool) → (root == k) ≡ b → has_at (slice_set (replicate (length nodes) no_way) root only_even) k way ≡ true → Walks nodes root way k
root_sound nodes root way k true e h =
    let marks = replicate (length nodes) no_way in
    let same = eqb-true root k e in
    let lt = has_inside (slice_set marks root only_even) k way h in
    let inside : k < length marks = omega (arith, lt, length-set marks root only_even) in
    let new : ways_at (slice_set marks root only_even) k ≡ only_even =
    subst (λ j. slice_index_or (slice_set marks j only_even) k no_way ≡ only_even) (sym same) (get_or-set_same marks k only_even no_way inside) in
    subst (λ j. Walks nodes root way j) same (even_walk nodes root way (ap (λ x. has_way x way) (sym new) ∙ h))
root_sound nodes root way k false e h =
    let marks = replicate (length nodes) no_way in
    let other : k ≢ root = λ same. true≢false (sym (eq-eqb root k (sym same)) ∙ e) in
    absurd (unmarked (length nodes) k way (sym (ap (λ x. has_way x way) (get_or-set_other marks root k only_even no_way other)) ∙ h))

-- first the root alone is marked
pub IsWalked-root : (nodes : List Node) (root : ℕ) → root < length nodes → IsWalked nodes root (length nodes) (slice_set (replicate (length nodes) no_way) root only_even)
IsWalked-root nodes root inside = record {
  size = length-set (replicate (length nodes) no_way) root only_even ∙ length-replicate (length nodes) no_way;
  rooted = ap (λ x. has_way x Even) (get_or-set_same (replicate (length nodes) no_way) root only_even no_way (omega (arith, length-replicate (length nodes) no_way, inside)));
  sound = λ way k h. root_sound nodes root way k (root == k) refl h;
  closed = λ way k node le h there. absurd (none-some node (sym (slice_get_past nodes k le) ∙ there));
}

-- a place to which no walk comes is passed
pub IsWalked-pass : (nodes : List Node) (root place : ℕ) (marks : List Occurrences) → IsWalked nodes root (suc place) marks → is_any (ways_at marks place) ≡ false → IsWalked nodes root place marks
IsWalked-pass nodes root place marks m none = record {
  size = m.size;
  rooted = m.rooted;
  sound = m.sound;
  closed = λ way k node le h there next c p. elim (le-cases place k le) [
    | inl lt ↦ m.closed way k node lt h there next c p
    | inr e ↦ absurd (true≢false (sym (any_from (ways_at marks k) way h) ∙ ap (λ j. is_any (ways_at marks j)) (sym e) ∙ none))
  ];
}

-- at a place with a mark, what walks go on to is marked
pub IsWalked-mark : (nodes : List Node) → IsGraph nodes → (root place : ℕ) (marks : List Occurrences) (node : Node) → IsWalked nodes root (suc place) marks → is_any (ways_at marks place) ≡ true
    → slice_get nodes place ≡ Some node → IsWalked nodes root place (with_flows marks (flows (ways_at marks place) node))
IsWalked-mark nodes g root place marks node m any at =
    let w = ways_at marks place in
    let fs = flows w node in
    record {
      size = length-flows marks fs ∙ m.size;
      rooted = flows-stay marks fs root Even m.rooted;
      sound = λ way k h. elim (flows-cases marks fs k way h) [
        | inl p ↦ m.sound way k p
        | inr f ↦
            let o = flow_sound w node way f.flow any f.among f.has in
            Step o.way place node way k (m.sound o.way place o.has) at (subst (λ j. Contains (steps o.way node) (way, j)) f.to o.step)
      ];
      closed = λ way k n le h there next c p. elim (le-cases place k le) [
        | inl lt ↦ elim (flows-cases marks fs k way h) [
          | inl q ↦ flows-stay marks fs c next (m.closed way k n lt q there next c p)
          | inr f ↦
              let below = children-below nodes g place node at k (subst (Contains (children node)) f.to (let o = flow_sound w node way f.flow any f.among f.has in step_child node o.way (way, f.flow.0) o.step)) in
              absurd (omega (arith, below))
        ]
        | inr e ↦
            let same : n ≡ node = same_Some n node (sym there ∙ ap (slice_get nodes) (sym e) ∙ at) in
            let q : Contains (steps way node) (next, c) = subst (λ x. Contains (steps way x) (next, c)) same p in
            let below = children-below nodes g place node at c (step_child node way (next, c) q) in
            let was : has_at marks place way ≡ true = elim (flows-cases marks fs k way h) [
              | inl r ↦ ap (λ j. has_at marks j way) e ∙ r
              | inr f ↦
                  let under = children-below nodes g place node at k (subst (Contains (children node)) f.to (let o = flow_sound w node way f.flow any f.among f.has in step_child node o.way (way, f.flow.0) o.step)) in
                  absurd (omega (arith, under, e))
            ] in
            let f = flow_complete w node way (next, c) was q in
            let within = slice_get_within nodes place node at in
            flows-there marks fs c next f.ways (omega (arith, below, within, m.size)) f.flow f.has
      ];
    }

-- in the end each way of a walk is marked
pub IsWalked-walks : (nodes : List Node) (root : ℕ) (marks : List Occurrences) → IsWalked nodes root 0 marks → (way : Way) (k : ℕ) → Walks nodes root way k → has_at marks k way ≡ true
IsWalked-walks nodes root marks m way k Root = m.rooted
IsWalked-walks nodes root marks m way k (Step before id node next c r there p) = m.closed before id node (omega arith) (IsWalked-walks nodes root marks m before id r) there next c p

pub IsWalked-exact : (nodes : List Node) (root : ℕ) (marks : List Occurrences) → IsWalked nodes root 0 marks → (way : Way) (k : ℕ) → (has_at marks k way ≡ true) ↔ Walks nodes root way k
IsWalked-exact nodes root marks m way k = (m.sound way k, IsWalked-walks nodes root marks m way k)

-- walks come to what the root reaches
pub Walks-reaches : (nodes : List Node) (root : ℕ) (way : Way) (k : ℕ) → Walks nodes root way k → Reaches nodes root k
Walks-reaches nodes root way k Root = RootOf
Walks-reaches nodes root way k (Step before id node next c r there p) = Child id node c (Walks-reaches nodes root before id r) there (step_child node before (next, c) p)

pub record IsWalkedTo (nodes : List Node) (root : ℕ) (k : ℕ) : Type 0 where
  pub way : Way
  pub walks : Walks nodes root way k

-- and to no more
pub reached-walked : (nodes : List Node) (root : ℕ) (k : ℕ) → Reaches nodes root k → IsWalkedTo nodes root k
reached-walked nodes root k RootOf = record { way = Even; walks = Root }
reached-walked nodes root k (Child id node c r there p) =
    let w = reached-walked nodes root id r in
    let s = child_step node w.way c p in
    record { way = s.next; walks = Step w.way id node s.next c w.walks there s.step }

with_flows-append : (marks : List Occurrences) (fs gs : List (ℕ × Occurrences)) → with_flows marks (fs ++ gs) ≡ with_flows (with_flows marks fs) gs
with_flows-append marks [] gs = refl
with_flows-append marks (f ∷ fs) gs = with_flows-append (with_ways marks f.0 f.1) fs gs

-- a word more
pub freely-more : (marks : List Occurrences) (ids : List ℕ) (i d : ℕ) → i < length ids
    → with_flows marks (freely (take (i + 1) ids)) ≡ with_ways (with_flows marks (freely (take i ids))) (slice_index_or ids i d) only_free
freely-more marks ids i d h =
    ap (λ l. with_flows marks (freely l)) (take_more ids i d h)
    ∙ ap (with_flows marks) (map-append (λ (c : ℕ). (c, only_free)) (take i ids) (slice_index_or ids i d ∷ []))
    ∙ with_flows-append marks (freely (take i ids)) ((slice_index_or ids i d, only_free) ∷ [])
