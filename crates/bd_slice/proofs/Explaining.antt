-- What explains a value, from what explains those that it is made of.
use Rattle.std.proofs.Common.{◌≡◌, ℕ, zero, suc, ◌<◌, ◌≤◌, ◌+◌, Bool, true, false, List, [], ◌∷◌, ◌++◌, length, map, take, get_or, refl, sym, ap, subst, ◌∙◌, arith}
use Rattle.std.specs.Prelude.{not, slice_index_or}
use Rattle.std.specs.List.{AllByRecursion}
use Rattle.bd_model.specs.DesignView.{DesignView}
use Rattle.bd_model.specs.ExprView.{ExprViews, Entry, Input, Local, Apply}
use Rattle.bd_model.specs.Table.{at}
use Rattle.bd_model.specs.Value.{Env, is_true, scalar_of, truth, table_of, values_of, word_of}
use Rattle.bd_model.specs.declared.case.Case.{Case}
use Rattle.bd_model.specs.declared.table.Scalar.{Scalar}
use Rattle.bd_model.specs.declared.table.Value.{Value}
use Rattle.bd_slice.specs.Reasons.{IsFound, HoldsIn, AllHold}
use Rattle.bd_slice.specs.Columns.{column_state}
use Rattle.bd_slice.specs.Run.{subject_value, begins_at, let_values_in, word_at}
use Rattle.bd_slice.specs.inner.Found.{IsAt, Explains, ExplainsAfter, Follows, env_at, joined_value, scalar_in, word_in}
use Rattle.bd_slice.specs.declared.subject.Subject.{Subject}
use Rattle.bd_slice.specs.declared.subject.Subject.TheVariants as subject
use Rattle.bd_slice.specs.declared.place.Column.{Column}
use Rattle.bd_slice.specs.declared.moment.Moment.{Moment}
use Rattle.bd_slice.specs.declared.subject.Fact.{Fact}
use Rattle.bd_slice.specs.declared.subject.Finding.{Finding}
use Rattle.bd_slice.specs.declared.subject.Finding.TheVariants as finding
use Rattle.bd_slice.specs.declared.finding.Here.{Here}
use Rattle.bd_slice.specs.declared.finding.Found.{Found}
use Rattle.bd_slice.proofs.Following.{all_parts_more, all_parts_not, no_parts_more, some_part}

all_both : (P : Fact → Type 0) (xs ys : List Fact) → AllByRecursion P xs → AllByRecursion P ys → AllByRecursion P (xs ++ ys)
all_both P [] ys h k = k
all_both P (x ∷ xs) ys h k = (h.0, all_both P xs ys h.1 k)

all_front : (P : Fact → Type 0) (xs ys : List Fact) → AllByRecursion P (xs ++ ys) → AllByRecursion P xs
all_front P [] ys h = tt
all_front P (x ∷ xs) ys h = (h.0, all_front P xs ys h.1)

all_back : (P : Fact → Type 0) (xs ys : List Fact) → AllByRecursion P (xs ++ ys) → AllByRecursion P ys
all_back P [] ys h = h
all_back P (x ∷ xs) ys h = all_back P xs ys h.1

-- facts that follow from others hold
follows_holds : (d : DesignView) (c : Case) (x : Finding) → Follows x → IsFound d c x
follows_holds d c (finding.Rests s v) h = absurd h
follows_holds d c (finding.Chosen b) h = tt
follows_holds d c (finding.Decided n) h = tt
follows_holds d c (finding.Met a) h = tt
follows_holds d c (finding.Passed a b) h = tt
follows_holds d c (finding.Applied f args v) h = absurd h

-- a value that rests on nothing
pub explains_nothing : (h : Here) (m : Env → Scalar) (fv : Scalar) (ff : List Fact) → ff ≡ [] → ((env : Env) → m env ≡ fv) → Explains h m fv ff
explains_nothing h m fv ff none same = record {
  holds = λ d now. subst (AllHold d h.case.now) (sym none) tt;
  local = λ d o facts. same (env_at d o h);
}

-- a value that is one of the run's
pub explains_rests : (h : Here) (m : Env → Scalar) (fv : Scalar) (ff : List Fact) (s : Subject) (x : Fact) → ff ≡ x ∷ [] → x.finding ≡ finding.Rests s fv → ((d : DesignView) → IsAt d h → subject_value d h.case.now s ≡ fv)
    → ((d : DesignView) (o : Case) → subject_value d o s ≡ fv → m (env_at d o h) ≡ fv) → Explains h m fv ff
explains_rests h m fv ff s x facts is here other = record {
  holds = λ d now. subst (AllHold d h.case.now) (sym facts) (subst (IsFound d h.case.now) (sym is) (here d now), tt);
  local = λ d o all. other d o (subst (IsFound d o) is (subst (AllHold d o) facts all).0);
}

-- a value that is made of one other, on the same facts
pub explains_same : (h : Here) (m n : Env → Scalar) (fv : Scalar) (ff : List Fact) (gv : Scalar) (gf : List Fact) → gf ≡ ff → Explains h m fv ff → ((env : Env) → m env ≡ fv → n env ≡ gv) → Explains h n gv gf
explains_same h m n fv ff gv gf facts by same = record {
  holds = λ d now. subst (AllHold d h.case.now) (sym facts) (by.holds d now);
  local = λ d o all. same (env_at d o h) (by.local d o (subst (AllHold d o) facts all));
}

-- a value that is made of two others, on the facts of both
pub explains_both : (h : Here) (m n k : Env → Scalar) (fv : Scalar) (ff : List Fact) (gv : Scalar) (gf : List Fact) (rv : Scalar) (rf : List Fact) → rf ≡ ff ++ gf → Explains h m fv ff → Explains h n gv gf → ((env : Env) → m env ≡ fv → n env ≡ gv → k env ≡ rv) → Explains h k rv rf
explains_both h m n k fv ff gv gf rv rf facts first second same = record {
  holds = λ d now. subst (AllHold d h.case.now) (sym facts) (all_both (HoldsIn d h.case.now) ff gf (first.holds d now) (second.holds d now));
  local = λ d o all.
      let both = subst (AllHold d o) facts all in
      same (env_at d o h) (first.local d o (all_front (HoldsIn d o) ff gf both)) (second.local d o (all_back (HoldsIn d o) ff gf both));
}

-- a value that is made of one other, with a fact more that follows from the others
pub explains_told : (h : Here) (m n : Env → Scalar) (fv : Scalar) (ff : List Fact) (gv : Scalar) (gf : List Fact) (x : Fact) → gf ≡ x ∷ ff → Follows x.finding → Explains h m fv ff → ((env : Env) → m env ≡ fv → n env ≡ gv) → Explains h n gv gf
explains_told h m n fv ff gv gf x facts told by same = record {
  holds = λ d now. subst (AllHold d h.case.now) (sym facts) (follows_holds d h.case.now x.finding told, by.holds d now);
  local = λ d o all. same (env_at d o h) (by.local d o (subst (AllHold d o) facts all).1);
}

-- facts found before, and those of a value
pub explains_after : (h : Here) (m : Env → Scalar) (before : List Fact) (fv : Scalar) (ff : List Fact) (g : Found) → g.facts.items ≡ before ++ ff → g.value ≡ fv → Explains h m fv ff → ExplainsAfter h before m g
explains_after h m before fv ff g facts value by = record {
  holds = λ d now first. subst (AllHold d h.case.now) (sym facts) (all_both (HoldsIn d h.case.now) before ff first (by.holds d now));
  front = λ d o all. all_front (HoldsIn d o) before ff (subst (AllHold d o) facts all);
  local = λ d o all. by.local d o (all_back (HoldsIn d o) before ff (subst (AllHold d o) facts all)) ∙ sym value;
}

pub explains_then : (h : Here) (m n k : Env → Scalar) (fv : Scalar) (ff : List Fact) (g : Found) → Explains h m fv ff → ExplainsAfter h ff n g → ((env : Env) → m env ≡ fv → n env ≡ g.value → k env ≡ g.value) → Explains h k g.value g.facts.items
explains_then h m n k fv ff g first by same = record {
  holds = λ d now. by.holds d now (first.holds d now);
  local = λ d o all. same (env_at d o h) (first.local d o (by.front d o all)) (by.local d o all);
}

-- a value that is made of one found before and one found after it
pub explains_made : (h : Here) (m n k : Env → Scalar) (fv : Scalar) (ff : List Fact) (g : Found) (rv : Scalar) (rf : List Fact) → rf ≡ g.facts.items → Explains h m fv ff → ExplainsAfter h ff n g → ((env : Env) → m env ≡ fv → n env ≡ g.value → k env ≡ rv) → Explains h k rv rf
explains_made h m n k fv ff g rv rf facts first by same = record {
  holds = λ d now. subst (AllHold d h.case.now) (sym facts) (by.holds d now (first.holds d now));
  local = λ d o all.
      let both = subst (AllHold d o) facts all in
      same (env_at d o h) (first.local d o (by.front d o both)) (by.local d o both);
}

-- the parts so far do not decide, and neither does one more
pub undecided_more : {X : Type 0} → (decides : Bool) (f : X → Value) (xs : List X) (i : ℕ) (x : X) → i < length xs → x ≡ get_or xs i x → joined_value decides (map f (take i xs)) ≡ not decides → is_true (f x) ≡ not decides
    → joined_value decides (map f (take (i + 1) xs)) ≡ not decides
undecided_more true f xs i x within is front here = no_parts_more is_true f xs i x within is front here
undecided_more false f xs i x within is front here = all_parts_more is_true f xs i x within is front here

pub decided_at : {X : Type 0} → (decides : Bool) (f : X → Value) (xs : List X) (i : ℕ) (x : X) → i < length xs → x ≡ get_or xs i x → is_true (f x) ≡ decides → joined_value decides (map f xs) ≡ decides
decided_at true f xs i x within is here = some_part is_true f xs i x within is here
decided_at false f xs i x within is here = all_parts_not is_true f xs i x within is here

pub undecided_none : (decides : Bool) → joined_value decides [] ≡ not decides
undecided_none true = refl
undecided_none false = refl

-- facts of two lists
pub hold_both : (d : DesignView) (c : Case) (fs gs hs : List Fact) → hs ≡ fs ++ gs → AllHold d c fs → AllHold d c gs → AllHold d c hs
hold_both d c fs gs hs is first second = subst (AllHold d c) (sym is) (all_both (HoldsIn d c) fs gs first second)

pub hold_front : (d : DesignView) (c : Case) (fs gs hs : List Fact) → hs ≡ fs ++ gs → AllHold d c hs → AllHold d c fs
hold_front d c fs gs hs is all = all_front (HoldsIn d c) fs gs (subst (AllHold d c) is all)

pub hold_back : (d : DesignView) (c : Case) (fs gs hs : List Fact) → hs ≡ fs ++ gs → AllHold d c hs → AllHold d c gs
hold_back d c fs gs hs is all = all_back (HoldsIn d c) fs gs (subst (AllHold d c) is all)

pub hold_none : (d : DesignView) (c : Case) (fs : List Fact) → fs ≡ [] → AllHold d c fs
hold_none d c fs is = subst (AllHold d c) (sym is) tt

-- an application
pub explains_applied : (h : Here) (s : ℕ) (es : ExprViews) (words : List ℕ) (v : Scalar) (fs : List Fact) (gv : Scalar) (gf : List Fact) (x : Fact) → gf ≡ x ∷ fs → gv ≡ v → x.finding ≡ finding.Applied s words v
    → v ≡ at (table_of h.case.now.interp s) words → ((d : DesignView) → IsAt d h → AllHold d h.case.now fs) → ((d : DesignView) (o : Case) → AllHold d o fs → map word_of (values_of (env_at d o h) es) ≡ words) → Explains h (scalar_in (Apply s es)) gv gf
explains_applied h s es words v fs gv gf x facts same is table first second = record {
  holds = λ d now. subst (AllHold d h.case.now) (sym facts) (subst (IsFound d h.case.now) (sym is) (sym table), first d now);
  local = λ d o all.
      let both = subst (AllHold d o) facts all in
      ap (λ ns. at (table_of o.interp s) ns) (second d o both.1) ∙ subst (IsFound d o) is both.0 ∙ sym same;
}

-- ---- what names stand for
take_front : (n : ℕ) (xs : List Value) (i : ℕ) (d : Value) → i < n → slice_index_or (take n xs) i d ≡ slice_index_or xs i d
take_front zero xs i d h = absurd (omega (arith, h))
take_front (suc n) [] i d h = refl
take_front (suc n) (x ∷ xs) zero d h = refl
take_front (suc n) (x ∷ xs) (suc i) d h = take_front n xs i d (omega (arith, h))

take_past : (n : ℕ) (xs : List Value) (i : ℕ) (d : Value) → n ≤ i → slice_index_or (take n xs) i d ≡ d
take_past zero [] i d h = refl
take_past zero (x ∷ xs) i d h = refl
take_past (suc n) [] i d h = refl
take_past (suc n) (x ∷ xs) zero d h = absurd (omega (arith, h))
take_past (suc n) (x ∷ xs) (suc i) d h = take_past n xs i d (omega (arith, h))

-- one fact, which is a value of the run
abbrev pub RestsOn : List Fact → Subject → Scalar → Type 0
RestsOn facts s v = (x : Fact) × (facts ≡ x ∷ []) × (x.finding ≡ finding.Rests s v)

pub explains_entry : (h : Here) (fv : Scalar) (ff : List Fact) (i : ℕ) (k : Column) (v : Scalar) → k ≡ begins_at h.cycle → fv ≡ v → v ≡ scalar_of (slice_index_or h.moment.now.state i (truth false)) → RestsOn ff (subject.Latch k i) v → Explains h (scalar_in (Entry i)) fv ff
explains_entry h fv ff i k v begins same value rests = explains_rests h (scalar_in (Entry i)) fv ff (subject.Latch k i) rests.0 rests.1 (rests.2 ∙ ap (λ y. finding.Rests (subject.Latch k i) y) (sym same))
    (λ d now. ap (λ (j : Column). scalar_of (slice_index_or (column_state d h.case.now j) i (truth false))) begins ∙ ap (λ (m : Moment). scalar_of (slice_index_or m.state i (truth false))) (sym now.moment) ∙ sym value ∙ sym same)
    (λ d o is. ap (λ (j : Column). scalar_of (slice_index_or (column_state d o j) i (truth false))) (sym begins) ∙ is)

pub explains_entry_at : (h : Here) (fv : Scalar) (ff : List Fact) (i a : ℕ) (k : Column) (v : Scalar) → k ≡ begins_at h.cycle → fv ≡ v → v ≡ word_at (slice_index_or h.moment.now.state i (truth false)) a → RestsOn ff (subject.Cell k i a) v → Explains h (word_in (Entry i) a) fv ff
explains_entry_at h fv ff i a k v begins same value rests = explains_rests h (word_in (Entry i) a) fv ff (subject.Cell k i a) rests.0 rests.1 (rests.2 ∙ ap (λ y. finding.Rests (subject.Cell k i a) y) (sym same))
    (λ d now. ap (λ (j : Column). word_at (slice_index_or (column_state d h.case.now j) i (truth false)) a) begins ∙ ap (λ (m : Moment). word_at (slice_index_or m.state i (truth false)) a) (sym now.moment) ∙ sym value ∙ sym same)
    (λ d o is. ap (λ (j : Column). word_at (slice_index_or (column_state d o j) i (truth false)) a) (sym begins) ∙ is)

pub explains_input : (h : Here) (fv : Scalar) (ff : List Fact) (i : ℕ) (v : Scalar) → fv ≡ v → v ≡ slice_index_or h.moment.now.inputs i (Scalar.Bool false) → RestsOn ff (subject.Input h.cycle i) v
    → Explains h (scalar_in (Input i)) fv ff
explains_input h fv ff i v same value rests = explains_rests h (scalar_in (Input i)) fv ff (subject.Input h.cycle i) rests.0 rests.1 (rests.2 ∙ ap (λ y. finding.Rests (subject.Input h.cycle i) y) (sym same))
    (λ d now. ap (λ (m : Moment). slice_index_or m.inputs i (Scalar.Bool false)) (sym now.moment) ∙ sym value ∙ sym same)
    (λ d o is. is)

-- a let that stands before
pub explains_local : (h : Here) (fv : Scalar) (ff : List Fact) (i : ℕ) (v : Scalar) → i < length h.lets.now → fv ≡ v → v ≡ scalar_of (slice_index_or h.lets.now i (truth false)) → RestsOn ff (subject.Let h.cycle i) v
    → Explains h (scalar_in (Local i)) fv ff
explains_local h fv ff i v within same value rests = explains_rests h (scalar_in (Local i)) fv ff (subject.Let h.cycle i) rests.0 rests.1 (rests.2 ∙ ap (λ y. finding.Rests (subject.Let h.cycle i) y) (sym same))
    (λ d now. ap scalar_of (sym (take_front (length h.lets.now) (let_values_in d h.case.now h.cycle) i (truth false) within)) ∙ ap (λ (vs : List Value). scalar_of (slice_index_or vs i (truth false))) (sym now.lets) ∙ sym value ∙ sym same)
    (λ d o is. ap scalar_of (take_front (length h.lets.now) (let_values_in d o h.cycle) i (truth false) within) ∙ is)

pub explains_local_at : (h : Here) (fv : Scalar) (ff : List Fact) (i a : ℕ) (v : Scalar) → i < length h.lets.now → fv ≡ v → v ≡ word_at (slice_index_or h.lets.now i (truth false)) a → RestsOn ff (subject.LetCell h.cycle i a) v → Explains h (word_in (Local i) a) fv ff
explains_local_at h fv ff i a v within same value rests = explains_rests h (word_in (Local i) a) fv ff (subject.LetCell h.cycle i a) rests.0 rests.1 (rests.2 ∙ ap (λ y. finding.Rests (subject.LetCell h.cycle i a) y) (sym same))
    (λ d now. ap (λ v. word_at v a) (sym (take_front (length h.lets.now) (let_values_in d h.case.now h.cycle) i (truth false) within)) ∙ ap (λ (vs : List Value). word_at (slice_index_or vs i (truth false)) a) (sym now.lets) ∙ sym value ∙ sym same)
    (λ d o is. ap (λ v. word_at v a) (take_front (length h.lets.now) (let_values_in d o h.cycle) i (truth false) within) ∙ is)

-- one that doesn't is false, or 0
pub explains_no_local : (h : Here) (fv : Scalar) (ff : List Fact) (i : ℕ) → length h.lets.now ≤ i → fv ≡ Scalar.Bool false → ff ≡ [] → Explains h (scalar_in (Local i)) fv ff
explains_no_local h fv ff i past value none = record {
  holds = λ d now. subst (AllHold d h.case.now) (sym none) tt;
  local = λ d o facts. ap scalar_of (take_past (length h.lets.now) (let_values_in d o h.cycle) i (truth false) past) ∙ sym value;
}

pub explains_no_local_at : (h : Here) (fv : Scalar) (ff : List Fact) (i a : ℕ) → length h.lets.now ≤ i → fv ≡ Scalar.Word 0 → ff ≡ [] → Explains h (word_in (Local i) a) fv ff
explains_no_local_at h fv ff i a past value none = record {
  holds = λ d now. subst (AllHold d h.case.now) (sym none) tt;
  local = λ d o facts. ap (λ v. word_at v a) (take_past (length h.lets.now) (let_values_in d o h.cycle) i (truth false) past) ∙ sym value;
}
