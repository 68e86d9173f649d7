-- Reasons as they are collected: each value gets one, in the order in which the values stand.
use Rattle.std.proofs.Common.{◌≡◌, ℕ, zero, suc, ◌<◌, ◌≤◌, ◌+◌, ◌⊎◌, inl, inr, Bool, true, false, List, [], ◌∷◌, ◌++◌, length, map, take, get_or, slice_get, Option, None, Some, Contains, if◌then◌else◌, refl, sym, ap, subst, ◌∙◌, arith, append_assoc, append-nil}
use Rattle.std.specs.List.{All, list_any}
use Rattle.std.proofs.lemmas.Bool.{false≢true, eqb-true, and_parts}
use Rattle.std.proofs.lemmas.List.{take_all, take_more, take-append-le, length_push, get_or_append_left, get_or_push}
use Rattle.std.proofs.lemmas.List.Elements.{All-more, All-push, All-weaker, Contains-append_left}
use Rattle.std.proofs.lemmas.Option.{none-some, get_or_from_slice_get, slice_get_within}
use Rattle.indexmap.specs.IndexSet.{insert_key}
use Rattle.indexmap.proofs.CallerLemmas.{Contains-insert_key}
use Rattle.bd_list.proofs.Pushed.{map-push}
use Rattle.bd_model.specs.DesignView.{DesignView}
use Rattle.bd_model.specs.declared.case.Case.{Case}
use Rattle.bd_slice.specs.History.{HasSubject}
use Rattle.bd_slice.specs.Reasons.{AreReasons, IsAmong, IsClosed, IsReason, RestsAmong, subjects_of}
use Rattle.bd_slice.specs.inner.Collected.{AreCollected, IsFront}
use Rattle.bd_slice.specs.contracts.place.ColumnPartialEq.TheImpl.{eq-value as column_eq-value}
use Rattle.bd_slice.specs.contracts.subject.CyclePartialEq.TheImpl.{eq-value as cycle_eq-value}
use Rattle.bd_slice.specs.contracts.subject.SubjectPartialEq.TheImpl.{eq-value as subject_eq-value}
use Rattle.bd_slice.specs.declared.place.Column.{Column}
use Rattle.bd_slice.specs.declared.place.Column.TheVariants as column
use Rattle.bd_slice.specs.declared.reason.Reason.{Reason}
use Rattle.bd_slice.specs.declared.subject.Cycle.{Cycle}
use Rattle.bd_slice.specs.declared.subject.Cycle.TheVariants as cycle
use Rattle.bd_slice.specs.declared.subject.Fact.{Fact}
use Rattle.bd_slice.specs.declared.subject.Finding.{Finding}
use Rattle.bd_slice.specs.declared.subject.Finding.TheVariants as finding
use Rattle.bd_slice.specs.declared.subject.Subject.{Subject}
use Rattle.bd_slice.specs.declared.subject.Subject.TheVariants as subject

-- ---- values that compare as equal are the same
abbrev column_eq : Column → Column → Bool
column_eq = column_eq-value.it

abbrev cycle_eq : Cycle → Cycle → Bool
cycle_eq = cycle_eq-value.it

abbrev pub subject_eq : Subject → Subject → Bool
subject_eq = subject_eq-value.it

column_same : (a b : Column) → column_eq a b ≡ true → a ≡ b
column_same (column.Before n) (column.Before m) h = ap column.Before (eqb-true n m h)
column_same (column.Before n) b h = absurd (false≢true h)
column_same (column.After n) (column.After m) h = ap column.After (eqb-true n m h)
column_same (column.After n) b h = absurd (false≢true h)
column_same (column.Steps n) (column.Steps m) h = ap column.Steps (eqb-true n m h)
column_same (column.Steps n) b h = absurd (false≢true h)

cycle_same : (a b : Cycle) → cycle_eq a b ≡ true → a ≡ b
cycle_same cycle.Case cycle.Case h = refl
cycle_same cycle.Case b h = absurd (false≢true h)
cycle_same (cycle.FlushBefore n) (cycle.FlushBefore m) h = ap cycle.FlushBefore (eqb-true n m h)
cycle_same (cycle.FlushBefore n) b h = absurd (false≢true h)
cycle_same (cycle.FlushAfter n) (cycle.FlushAfter m) h = ap cycle.FlushAfter (eqb-true n m h)
cycle_same (cycle.FlushAfter n) b h = absurd (false≢true h)
cycle_same (cycle.Step n) (cycle.Step m) h = ap cycle.Step (eqb-true n m h)
cycle_same (cycle.Step n) b h = absurd (false≢true h)
cycle_same cycle.Invariant cycle.Invariant h = refl
cycle_same cycle.Invariant b h = absurd (false≢true h)

pub subject_same : (a b : Subject) → subject_eq a b ≡ true → a ≡ b
subject_same (subject.Latch k i) (subject.Latch l j) h =
    let parts = and_parts _ _ h in
    let first : k ≡ l = column_same k l parts.0 in
    let second : i ≡ j = eqb-true i j parts.1 in
    λ t. subject.Latch (first t) (second t)
subject_same (subject.Latch k i) b h = absurd (false≢true h)
subject_same (subject.Cell k i a) (subject.Cell l j b) h =
    let parts = and_parts _ _ h in
    let more = and_parts _ _ parts.1 in
    let first : k ≡ l = column_same k l parts.0 in
    let second : i ≡ j = eqb-true i j more.0 in
    let third : a ≡ b = eqb-true a b more.1 in
    λ t. subject.Cell (first t) (second t) (third t)
subject_same (subject.Cell k i a) b h = absurd (false≢true h)
subject_same (subject.Input k i) (subject.Input l j) h =
    let parts = and_parts _ _ h in
    let first : k ≡ l = cycle_same k l parts.0 in
    let second : i ≡ j = eqb-true i j parts.1 in
    λ t. subject.Input (first t) (second t)
subject_same (subject.Input k i) b h = absurd (false≢true h)
subject_same (subject.Let k i) (subject.Let l j) h =
    let parts = and_parts _ _ h in
    let first : k ≡ l = cycle_same k l parts.0 in
    let second : i ≡ j = eqb-true i j parts.1 in
    λ t. subject.Let (first t) (second t)
subject_same (subject.Let k i) b h = absurd (false≢true h)
subject_same (subject.LetCell k i a) (subject.LetCell l j b) h =
    let parts = and_parts _ _ h in
    let more = and_parts _ _ parts.1 in
    let first : k ≡ l = cycle_same k l parts.0 in
    let second : i ≡ j = eqb-true i j more.0 in
    let third : a ≡ b = eqb-true a b more.1 in
    λ t. subject.LetCell (first t) (second t) (third t)
subject_same (subject.LetCell k i a) b h = absurd (false≢true h)
subject_same subject.Invariant subject.Invariant h = refl
subject_same subject.Invariant b h = absurd (false≢true h)

-- ---- a set of values after one is inserted
front_by : (old new : List Subject) (s : Subject) (b : Bool) → new ≡ (if b then old else old ++ s ∷ []) → IsFront old new
front_by old new s true is = ([], is ∙ sym (append-nil old))
front_by old new s false is = (s ∷ [], is)

pub inserted_front : (old new : List Subject) (s : Subject) → new ≡ insert_key subject_eq old s → IsFront old new
inserted_front old new s is = front_by old new s (list_any (subject_eq s) old) is

pub inserted_there : (old new : List Subject) (s : Subject) → new ≡ insert_key subject_eq old s → Contains new s
inserted_there old new s is = subst (λ ks. Contains ks s) (sym is) (Contains-insert_key subject_eq subject_same old s)

pub front_same : (old : List Subject) → IsFront old old
front_same old = ([], sym (append-nil old))

pub front_further : (old mid new : List Subject) → IsFront old mid → IsFront mid new → IsFront old new
front_further old mid new a b = (a.0 ++ b.0, b.1 ∙ ap (λ ks. ks ++ b.0) a.1 ∙ append_assoc old a.0 b.0)

pub front_contains : (old new : List Subject) (s : Subject) → IsFront old new → Contains old s → Contains new s
front_contains old new s f h = subst (λ ks. Contains ks s) (sym f.1) (Contains-append_left old f.0 s h)

among_front : (old new : List Subject) (f : Finding) → IsFront old new → IsAmong old f → IsAmong new f
among_front old new (finding.Rests s x) f h = front_contains old new s f h
among_front old new (finding.Chosen b) f h = tt
among_front old new (finding.Decided n) f h = tt
among_front old new (finding.Met a) f h = tt
among_front old new (finding.Passed a b) f h = tt
among_front old new (finding.Applied g args x) f h = tt

pub rests_front : (old new : List Subject) (fs : List Fact) → IsFront old new → All (RestsAmong old) fs → All (RestsAmong new) fs
rests_front old new fs f h = All-weaker (RestsAmong old) (RestsAmong new) (λ (x : Fact) k. among_front old new x.finding f k) fs h

pub contains_front : (old new : List Subject) (ss : List Subject) → IsFront old new → All (Contains old) ss → All (Contains new) ss
contains_front old new ss f h = All-weaker (Contains old) (Contains new) (λ s k. front_contains old new s f k) ss h

-- ---- one reason more
pub collected_none : (P : Reason → Type 0) (asked keys : List Subject) (rs : List Reason) → rs ≡ [] → All (Contains keys) asked → AreCollected P asked 0 keys rs
collected_none P asked keys rs none there = rw none (record {
  front = refl;
  count = refl;
  asked = there;
  closed = λ k d within. absurd (omega (arith, within));
  each = λ k d within. absurd (omega (arith, within));
})

pub collected_more : (P : Reason → Type 0) (asked old new : List Subject) (rs more : List Reason) (place : ℕ) (s : Subject) (r : Reason) → slice_get old place ≡ Some s → r.subject ≡ s → P r → IsFront old new → IsClosed new r → more ≡ rs ++ r ∷ []
    → AreCollected P asked place old rs → AreCollected P asked (place + 1) new more
collected_more P asked old new rs more place s r at is given front closed put before =
    let within : place < length old = slice_get_within old place s at in
    let item : get_or old place s ≡ s = get_or_from_slice_get old place s s at in
    let kept : take (place + 1) new ≡ take (place + 1) old = ap (take (place + 1)) front.1 ∙ take-append-le (place + 1) old front.0 (omega (arith, within)) in
    rw put (record {
      front = map-push (λ (x : Reason). x.subject) rs r ∙ ap (λ ss. ss ++ r.subject ∷ []) before.front ∙ ap (λ x. take place old ++ x ∷ []) (is ∙ sym item) ∙ sym (take_more old place s within) ∙ sym kept;
      count = length_push rs r ∙ ap (λ n. n + 1) before.count;
      asked = contains_front old new asked front before.asked;
      closed = All-push (IsClosed new) rs r (All-weaker (IsClosed old) (IsClosed new) (λ x h. rests_front old new x.facts.items front h) rs before.closed) closed;
      each = All-push P rs r before.each given;
    })

get_past : (ks : List Subject) (n : ℕ) → slice_get ks n ≡ None → length ks ≤ n
get_past [] n h = omega arith
get_past (k ∷ ks) zero h = absurd (none-some k (sym h))
get_past (k ∷ ks) (suc n) h = omega (arith, get_past ks n h)

pub collected_all : (P : Reason → Type 0) (d : DesignView) (c : Case) (asked keys : List Subject) (rs : List Reason) (place : ℕ) → AreCollected P asked place keys rs → slice_get keys place ≡ None
    → ((r : Reason) → P r → HasSubject d r.subject → IsReason d c r) → AreReasons d c asked rs
collected_all P d c asked keys rs place got past gives =
    let whole : subjects_of rs ≡ keys = got.front ∙ take_all place keys (get_past keys place past) in
    record {
      each = All-weaker P (λ (r : Reason). HasSubject d r.subject → IsReason d c r) gives rs got.each;
      asked = subst (λ ks. All (Contains ks) asked) (sym whole) got.asked;
      closed = subst (λ ks. All (IsClosed ks) rs) (sym whole) got.closed;
    }

-- ---- values asked for, and those that facts name, one by one
pub asked_more : (old new ss : List Subject) (i : ℕ) (d : Subject) → i < length ss → All (Contains old) (take i ss) → new ≡ insert_key subject_eq old (get_or ss i d) → All (Contains new) (take (i + 1) ss)
asked_more old new ss i d within all is =
    All-more (Contains new) ss i d within (contains_front old new (take i ss) (inserted_front old new (get_or ss i d) is) all) (inserted_there old new (get_or ss i d) is)

pub asked_all : (keys ss : List Subject) (i : ℕ) → length ss ≤ i → All (Contains keys) (take i ss) → All (Contains keys) ss
asked_all keys ss i past all = subst (All (Contains keys)) (take_all i ss past) all

pub rests_more : (old new : List Subject) (fs : List Fact) (i : ℕ) (f : Fact) → i < length fs → f ≡ get_or fs i f → All (RestsAmong old) (take i fs) → IsFront old new → IsAmong new f.finding → All (RestsAmong new) (take (i + 1) fs)
rests_more old new fs i f within item all front here =
    All-more (RestsAmong new) fs i f within (rests_front old new (take i fs) front all) (subst (RestsAmong new) item here)

pub rests_all : (keys : List Subject) (fs : List Fact) (i : ℕ) → length fs ≤ i → All (RestsAmong keys) (take i fs) → All (RestsAmong keys) fs
rests_all keys fs i past all = subst (All (RestsAmong keys)) (take_all i fs past) all

pub nothing_yet : {X : Type 0} → (P : X → Type 0) → All P []
nothing_yet P k d within = absurd (omega (arith, within))
