-- Elimination by least degree, one vertex after another.
use Rattle.std.proofs.Common.{◌≡◌, ◌≢◌, ◌↔◌, ◌⊎◌, ℕ, zero, suc, ◌<◌, ◌≤◌, Bool, true, false, not, ◌&&◌, ◌||◌, ◌==◌, List, [], ◌∷◌, ◌++◌, All, Contains, length, get_or, take, nat_eq, inl, inr, refl, sym, ap, subst, ◌∙◌, append_assoc, append-nil, ⊎_elim, arith}
use Rattle.std.specs.Prelude.{count_by}
use Rattle.std.specs.List.{IsDistinct, filter}
use Rattle.std.specs.Set.{is_member}
use Rattle.std.proofs.Math.Bool.{and_comm}
use Rattle.std.proofs.lemmas.Bool.{and_left, and_parts, and_right, cases_Bool, eq-eqb, eqb-false, eqb-true, false_from_ne_true, false≢true, not_from_true, or_cases, or_from, or_left, or_right, true≢false}
use Rattle.std.proofs.lemmas.Bool.Decides.{Decides-eqb}
use Rattle.std.proofs.lemmas.Cmp.{nat_eq_equiv}
use Rattle.std.proofs.lemmas.List.{get_or-take, get_or_default, length-take-le}
use Rattle.std.proofs.lemmas.List.Elements.{Contains-get_or}
use Rattle.std.proofs.lemmas.List.Folds.{list_any_none}
use Rattle.std.proofs.lemmas.List.Kept.{AllPairs-filter}
use Rattle.std.proofs.lemmas.List.Sorted.{IsPermutation-to_front}
use Rattle.std.proofs.lemmas.List.Sums.{length-filter}
use Rattle.std.proofs.lemmas.Map.Keys.{apart_from_distinct, IsDistinct-push, IsDistinct-IsPermutation}
use Rattle.std.proofs.lemmas.Map.Made.{AllPairs-from_IsDistinct, IsDistinct-from_AllPairs, is_member-filter, length-from_same_keys}
use Rattle.std.proofs.lemmas.Map.Views.{list_any-from_Contains}
use Rattle.indexmap.proofs.CallerLemmas.{Contains-list_any}
use Rattle.bd_transitive.specs.declared.graph.Edge.{Edge}
use Rattle.bd_transitive.specs.declared.min_degree.EliminationGraph.{EliminationGraph}
use Rattle.bd_transitive.specs.Edges.{AreEdges, IsEnd, JoinsAt}
use Rattle.bd_transitive.specs.Elimination.{degree, joined_by, joined_without, HasLeastDegree, IsByLeastDegree}
use Rattle.bd_transitive.specs.inner.EliminationGraph.{is_end, is_left, is_neighbour, neighbours, rejoined, IsSound}
use Rattle.bd_transitive.proofs.Queues.{distinct-nil}

pub or-false : (a b : Bool) → b ≡ false → (a || b) ≡ true → a ≡ true
or-false true b e h = refl
or-false false true e h = absurd (true≢false e)
or-false false false e h = h

-- an item is in its list
pub member-there : (xs : List ℕ) (i : ℕ) → i < length xs → is_member nat_eq xs (get_or xs i 0) ≡ true
member-there xs i lt = list_any-from_Contains nat_eq_equiv (get_or xs i 0) xs (Contains-get_or xs i 0 lt)

-- an item isn't among those before it
pub not-before : (xs : List ℕ) (i : ℕ) → IsDistinct nat_eq xs → i < length xs → is_member nat_eq (take i xs) (get_or xs i 0) ≡ false
not-before xs i apart lt = false_from_ne_true _ (λ yes.
    let at = Contains-list_any nat_eq eqb-true (take i xs) (get_or xs i 0) yes in
    let size : length (take i xs) ≡ i = length-take-le i xs (omega (arith, lt)) in
    let below : at.0 < i = omega (arith, at.1, size) in
    let same : get_or xs at.0 (get_or xs i 0) ≡ get_or xs i 0 = sym (get_or-take i xs at.0 (get_or xs i 0) below) ∙ at.2 in
    let differ = apart_from_distinct nat_eq xs at.0 i (get_or xs i 0) apart below lt in
    eqb-false _ _ differ (same ∙ get_or_default xs i 0 (get_or xs i 0) lt))

-- how many pass a test is how many a list without repeats has that holds just these
pub degree-is : (vs row : List ℕ) (p : ℕ → Bool) → IsDistinct nat_eq vs → IsDistinct nat_eq row → ((q : ℕ) → is_member nat_eq row q ≡ (is_member nat_eq vs q && p q)) → count_by p vs ≡ length row
degree-is vs row p apart own is =
    sym (length-filter p vs)
    ∙ length-from_same_keys nat_eq_equiv (filter p vs) row (IsDistinct-from_AllPairs Decides-eqb (filter p vs) (AllPairs-filter ◌≢◌ p vs (AllPairs-from_IsDistinct Decides-eqb vs apart))) own
    (λ q. is_member-filter nat_eq_equiv p q (λ x e. ap p (eqb-true q x e)) vs ∙ sym (is q))

-- what stands nowhere in a list may come before it
pub distinct-cons : (v : ℕ) (vs : List ℕ) → IsDistinct nat_eq vs → is_member nat_eq vs v ≡ false → IsDistinct nat_eq (v ∷ vs)
distinct-cons v vs apart none =
    IsDistinct-IsPermutation nat_eq nat_eq_equiv.symm (vs ++ v ∷ []) (v ∷ vs) (IsPermutation-to_front vs v) (IsDistinct-push nat_eq_equiv vs v apart none)

-- the ends of edges in an order by least degree
pub record IsOrdered (edges : List Edge) (vs : List ℕ) : Type 0 where
  pub fewest : IsByLeastDegree (joined_by edges) vs
  pub distinct : IsDistinct nat_eq vs
  pub ends : (v : ℕ) → is_member nat_eq vs v ≡ is_end edges v

-- these vertices were taken, and any order by least degree of those that are left goes on
pub record IsTaken (edges : List Edge) (l : EliminationGraph) (taken : List ℕ) : Type 0 where
  pub joined : ℕ → ℕ → Bool
  pub symmetric : (x y : ℕ) → joined x y ≡ joined y x
  pub apart : (x : ℕ) → joined x x ≡ false
  pub sound : IsSound l
  pub are : (v w : ℕ) → is_left l v ≡ true → is_neighbour l v w ≡ (is_left l w && joined v w)
  pub rest : (vs : List ℕ) → IsDistinct nat_eq vs → ((v : ℕ) → is_member nat_eq vs v ≡ is_left l v) → IsByLeastDegree joined vs → IsOrdered edges (taken ++ vs)

-- a neighbour of the vertex that is taken, and another vertex
rejoined-neighbour : (l j k g s : Bool) → (g ≡ true → k ≡ false) → (((l && j) && not g) || ((l && k) && not s)) ≡ ((l && not g) && (j || ((true && k) && not s)))
rejoined-neighbour false j k g s f = refl
rejoined-neighbour true j true true s f = absurd (true≢false (f refl))
rejoined-neighbour true true false true s f = refl
rejoined-neighbour true false false true s f = refl
rejoined-neighbour true true k false s f = refl
rejoined-neighbour true false true false s f = refl
rejoined-neighbour true false false false s f = refl

-- a vertex that isn't one
kept-neighbour : (l j k g s : Bool) → (g ≡ true → j ≡ false) → (l && j) ≡ ((l && not g) && (j || ((false && k) && not s)))
kept-neighbour false j k g s f = refl
kept-neighbour true true k true s f = absurd (true≢false (f refl))
kept-neighbour true false k true s f = refl
kept-neighbour true true k false s f = refl
kept-neighbour true false k false s f = refl

parts : (a b : Bool) → (a && not b) ≡ true → (a ≡ true) × (b ≡ false)
parts true false h = (refl, refl)
parts true true h = absurd (false≢true h)
parts false b h = absurd (false≢true h)

and_true : (b : Bool) → (b && true) ≡ b
and_true true = refl
and_true false = refl

-- a vertex with fewest neighbours is taken
module _ (edges : List Edge) (l n : EliminationGraph) (taken own : List ℕ) (v : ℕ) (f : IsTaken edges l taken)
    (left : is_left l v ≡ true) (own_is : own ≡ neighbours l v)
    (fewest : (w : ℕ) → is_left l w ≡ true → (length (neighbours l v) < length (neighbours l w)) ⊎ ((length (neighbours l v) ≡ length (neighbours l w)) × (v ≤ w)))
    (sound : IsSound n) (left_is : (q : ℕ) → is_left n q ≡ (is_left l q && not (v == q)))
    (joined_is : (q : ℕ) → (v == q) ≡ false → is_member nat_eq own q ≡ true → (w : ℕ) → is_neighbour n q w ≡ rejoined (is_neighbour l q) own v q w)
    (others : (q : ℕ) → (v == q) ≡ false → is_member nat_eq own q ≡ false → neighbours n q ≡ neighbours l q) where
  own-has : (w : ℕ) → is_member nat_eq own w ≡ (is_left l w && f.joined v w)
  own-has w = ap (λ ns. is_member nat_eq ns w) own_is ∙ f.are v w left

  still : (q : ℕ) → is_left n q ≡ true → (is_left l q ≡ true) × ((v == q) ≡ false)
  still q h = parts (is_left l q) (v == q) (sym (left_is q) ∙ h)

  are : (q w : ℕ) → is_left n q ≡ true → is_neighbour n q w ≡ (is_left n w && joined_without v f.joined q w)
  are q w h =
      let here = still q h in
      let whole : is_neighbour n q w ≡ ((is_left l w && not (v == w)) && joined_without v f.joined q w) =
      ⊎_elim
      (λ yes.
      joined_is q here.1 (own-has q ∙ ap (λ b. b && f.joined v q) here.0 ∙ yes) w
      ∙ ap (λ b. (b && not (v == w)) || (is_member nat_eq own w && not (q == w))) (f.are q w here.0)
      ∙ ap (λ b. ((is_left l w && f.joined q w) && not (v == w)) || (b && not (q == w))) (own-has w)
      ∙ rejoined-neighbour (is_left l w) (f.joined q w) (f.joined v w) (v == w) (q == w) (λ e. ap (f.joined v) (sym (eqb-true v w e)) ∙ f.apart v)
      ∙ ap (λ b. (is_left l w && not (v == w)) && (f.joined q w || ((b && f.joined v w) && not (q == w)))) (sym yes))
      (λ no.
      ap (λ ns. is_member nat_eq ns w) (others q here.1 (own-has q ∙ ap (λ b. b && f.joined v q) here.0 ∙ no))
      ∙ f.are q w here.0
      ∙ kept-neighbour (is_left l w) (f.joined q w) (f.joined v w) (v == w) (q == w) (λ e. ap (f.joined q) (sym (eqb-true v w e)) ∙ f.symmetric q v ∙ no)
      ∙ ap (λ b. (is_left l w && not (v == w)) && (f.joined q w || ((b && f.joined v w) && not (q == w)))) (sym no))
      (cases_Bool (f.joined v q)) in
      whole ∙ ap (λ b. b && joined_without v f.joined q w) (sym (left_is w))

  first : (vs : List ℕ) → IsDistinct nat_eq (v ∷ vs) → ((q : ℕ) → is_member nat_eq (v ∷ vs) q ≡ is_left l q) → HasLeastDegree f.joined (v ∷ vs) v
  first vs apart members k d lt =
      let w : ℕ = get_or (v ∷ vs) k d in
      let there : is_left l w ≡ true = sym (members w) ∙ list_any-from_Contains nat_eq_equiv w (v ∷ vs) (Contains-get_or (v ∷ vs) k d lt) in
      let count = λ (x : ℕ) (h : is_left l x ≡ true). degree-is (v ∷ vs) (neighbours l x) (f.joined x) apart (f.sound.distinct x) (λ q. f.are x q h ∙ ap (λ b. b && f.joined x q) (sym (members q))) in
      subst (λ a. (a < degree f.joined (v ∷ vs) w) ⊎ ((a ≡ degree f.joined (v ∷ vs) w) × (v ≤ w))) (sym (count v left))
      (subst (λ b. (length (neighbours l v) < b) ⊎ ((length (neighbours l v) ≡ b) × (v ≤ w))) (sym (count w there)) (fewest w there))

  rest : (vs : List ℕ) → IsDistinct nat_eq vs → ((q : ℕ) → is_member nat_eq vs q ≡ is_left n q) → IsByLeastDegree (joined_without v f.joined) vs → IsOrdered edges ((taken ++ v ∷ []) ++ vs)
  rest vs apart members by =
      let gone : is_member nat_eq vs v ≡ false = members v ∙ left_is v ∙ and_right (is_left l v) (not (v == v)) (not_from_true (v == v) (eq-eqb v v refl)) in
      let whole : IsDistinct nat_eq (v ∷ vs) = distinct-cons v vs apart gone in
      let among : (q : ℕ) → is_member nat_eq (v ∷ vs) q ≡ is_left l q = λ q. ⊎_elim
      (λ yes. ap (λ b. b || is_member nat_eq vs q) (nat_eq_equiv.symm q v ∙ yes) ∙ sym left ∙ ap (is_left l) (eqb-true v q yes))
      (λ no. ap (λ b. b || is_member nat_eq vs q) (nat_eq_equiv.symm q v ∙ no) ∙ members q ∙ left_is q ∙ ap (λ b. is_left l q && not b) no ∙ and_true (is_left l q))
      (cases_Bool (v == q)) in
      subst (IsOrdered edges) (sym (append_assoc taken (v ∷ []) vs)) (f.rest (v ∷ vs) whole among (first vs whole among, by))

  pub taken-more : IsTaken edges n (taken ++ v ∷ [])
  taken-more = record {
    joined = joined_without v f.joined;
    symmetric = λ x y.
        ap (λ b. b || ((f.joined v x && f.joined v y) && not (x == y))) (f.symmetric x y)
        ∙ ap (λ b. f.joined y x || (b && not (x == y))) (and_comm (f.joined v x) (f.joined v y))
        ∙ ap (λ b. f.joined y x || ((f.joined v y && f.joined v x) && not b)) (nat_eq_equiv.symm x y);
    apart = λ x.
        ap (λ b. b || ((f.joined v x && f.joined v x) && not (x == x))) (f.apart x)
        ∙ and_right (f.joined v x && f.joined v x) (not (x == x)) (not_from_true (x == x) (eq-eqb x x refl));
    sound = sound;
    are = are;
    rest = rest;
  }

or_map : (a b c d : Bool) → (a ≡ true → c ≡ true) → (b ≡ true → d ≡ true) → (a || b) ≡ true → (c || d) ≡ true
or_map true b true d f g h = refl
or_map true b false d f g h = absurd (false≢true (f refl))
or_map false b true d f g h = refl
or_map false b false d f g h = g h

both : (a b c d : Bool) → ((a && b) || (c && d)) ≡ true → (d || b) ≡ true
both a b c true h = refl
both true true c false h = refl
both true false true false h = absurd (false≢true h)
both true false false false h = absurd (false≢true h)
both false b true false h = absurd (false≢true h)
both false b false false h = absurd (false≢true h)

-- a neighbour of the vertex that is taken is another vertex that is left
pub own-others : (edges : List Edge) (l : EliminationGraph) (taken : List ℕ) (v q : ℕ) → IsTaken edges l taken → is_left l v ≡ true → is_neighbour l v q ≡ true → (is_left l q ≡ true) × ((v == q) ≡ false)
own-others edges l taken v q f left at =
    let parts = and_parts (is_left l q) (f.joined v q) (sym (f.are v q left) ∙ at) in
    (parts.0, false_from_ne_true (v == q) (λ e. true≢false (sym parts.1 ∙ ap (f.joined v) (sym (eqb-true v q e)) ∙ f.apart v)))

-- an edge's ends are ends
joined-ends : (edges : List Edge) (v w : ℕ) → joined_by edges v w ≡ true → is_end edges w ≡ true
joined-ends [] v w h = absurd (false≢true h)
joined-ends (e ∷ es) v w h = or_map _ _ _ _ (both (e.from == v) (e.to == w) (e.to == v) (e.from == w)) (joined-ends es v w) h

turned : (a b c d : Bool) → ((a && b) || (c && d)) ≡ ((d && c) || (b && a))
turned true true true true = refl
turned true true true false = refl
turned true true false true = refl
turned true true false false = refl
turned true false true true = refl
turned true false true false = refl
turned true false false true = refl
turned true false false false = refl
turned false true true true = refl
turned false true true false = refl
turned false true false true = refl
turned false true false false = refl
turned false false true true = refl
turned false false true false = refl
turned false false false true = refl
turned false false false false = refl

joined-comm : (edges : List Edge) (v w : ℕ) → joined_by edges v w ≡ joined_by edges w v
joined-comm [] v w = refl
joined-comm (e ∷ es) v w = ap (λ b. b || joined_by es v w) (turned (e.from == v) (e.to == w) (e.to == v) (e.from == w)) ∙ ap (λ b. ((e.from == w && e.to == v) || (e.to == w && e.from == v)) || b) (joined-comm es v w)

loop-free : (a b v : ℕ) → (a ≡ b → ⊥) → (((a == v) && (b == v)) || ((b == v) && (a == v))) ≡ false
loop-free a b v differ = ⊎_elim
    (λ at. ⊎_elim (λ bt. absurd (differ (eqb-true a v at ∙ sym (eqb-true b v bt)))) (λ bf. or_from _ _ (and_right (a == v) (b == v) bf) (and_left (b == v) (a == v) bf)) (cases_Bool (b == v)))
    (λ af. or_from _ _ (and_left (a == v) (b == v) af) (and_right (b == v) (a == v) af))
    (cases_Bool (a == v))

joined-apart : (edges : List Edge) (v : ℕ) → All (λ (e : Edge). e.from ≡ e.to → ⊥) edges → joined_by edges v v ≡ false
joined-apart edges v differ = list_any_none _ edges (λ k d lt. loop-free (get_or edges k d).from (get_or edges k d).to v (differ k d lt))

implied : (a b : Bool) → (b ≡ true → a ≡ true) → b ≡ (a && b)
implied true b f = refl
implied false true f = absurd (false≢true (f refl))
implied false false f = refl

pub taken-none : (edges : List Edge) (l : EliminationGraph) → AreEdges edges → IsSound l → ((v : ℕ) → is_left l v ≡ is_end edges v) → ((v w : ℕ) → is_neighbour l v w ≡ joined_by edges v w) → IsTaken edges l []
taken-none edges l simple sound left joined = record {
  joined = joined_by edges;
  symmetric = joined-comm edges;
  apart = λ x. joined-apart edges x simple.different;
  sound = sound;
  are = λ v w _. joined v w ∙ implied (is_left l w) (joined_by edges v w) (λ h. left w ∙ joined-ends edges v w h);
  rest = λ vs apart members by. record { fewest = by; distinct = apart; ends = λ v. members v ∙ left v };
}

-- where none is left, all are taken
pub taken-all : (edges : List Edge) (l : EliminationGraph) (taken : List ℕ) → IsTaken edges l taken → ((v : ℕ) → is_left l v ≡ false) → IsOrdered edges taken
taken-all edges l taken f none = subst (IsOrdered edges) (append-nil taken) (f.rest [] distinct-nil (λ v. sym (none v)) tt)

end-there : (edges : List Edge) (v : ℕ) → is_end edges v ≡ true → IsEnd edges v
end-there [] v h = absurd (false≢true h)
end-there (e ∷ es) v h = ⊎_elim
    (λ here. ⊎_elim (λ from. (e.to, (0, inl (eqb-true e.from v from, refl)))) (λ to. (e.from, (0, inr (refl, eqb-true e.to v to)))) (or_cases (e.from == v) (e.to == v) here))
    (λ later. let end = end-there es v later in (end.0, (suc end.1.0, end.1.1)))
    (or_cases ((e.from == v) || (e.to == v)) (is_end es v) h)

end-listed : (edges : List Edge) (v a e : ℕ) → JoinsAt edges e v a → is_end edges v ≡ true
end-listed [] v a e h = absurd h
end-listed (e ∷ es) v a zero h =
    or_left _ (is_end es v) (⊎_elim (λ from. or_left _ (e.to == v) (eq-eqb e.from v from.0)) (λ to. or_right (e.from == v) _ (eq-eqb e.to v to.1)) h)
end-listed (e ∷ es) v a (suc k) h = or_right ((e.from == v) || (e.to == v)) (is_end es v) (end-listed es v a k h)

-- the vertices of an order are the ends of edges
pub ordered-ends : (edges : List Edge) (vs : List ℕ) → IsOrdered edges vs → (v : ℕ) → Contains vs v ↔ IsEnd edges v
ordered-ends edges vs o v = (
  λ at. end-there edges v (sym (o.ends v) ∙ list_any-from_Contains nat_eq_equiv v vs at),
  λ end. Contains-list_any nat_eq eqb-true vs v (o.ends v ∙ end-listed edges v end.0 end.1.0 end.1.1),
)
