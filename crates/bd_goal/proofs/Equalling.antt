-- Two visible states are equal entry by entry, each memory at an address of its own.
use Rattle.std.proofs.Common.{◌≡◌, ℕ, zero, suc, ◌+◌, ◌*◌, ◌<◌, ◌≤◌, inl, inr, Bool, true, false, ◌&&◌, ◌==◌, if◌then◌else◌, List, [], ◌∷◌, drop, length, Ok, refl, ap, sym, ◌∙◌, subst, arith, eqb-true, eq-eqb}
use Rattle.std.specs.Prelude.{◌↔◌, IsTrue, IfOk, Result, Some, Contains, not, slice_get, slice_index_or}
use Rattle.std.specs.declared.alloc.AllocError.{AllocError}
use Rattle.std.proofs.lemmas.Result.{IfOk-weaker}
use Rattle.std.specs.Cmp.{booleans_Decides}
use Rattle.std.proofs.lemmas.List.{drop_all, length-map}
use Rattle.std.proofs.lemmas.List.Sums.{count_by-le-length, sum_by-cons}
use Rattle.std.proofs.lemmas.Option.{slice_get-map}
use Rattle.std.specs.Option.{option_map}
use Rattle.std.proofs.lemmas.List.Elements.{Contains-append_cases}
use Rattle.std.proofs.Math.Nat.{mul-le-mul}
use Rattle.bd_model.specs.Table.{read}
use Rattle.bd_model.specs.DesignView.{DesignView}
use Rattle.bd_model.specs.Fits.{value_sort}
use Rattle.bd_model.specs.Lawful.{IsLawful, entry_sorts}
use Rattle.bd_model.specs.declared.design.Sort.{Sort}
use Rattle.bd_model.specs.declared.design.Sort.TheVariants as sort
use Rattle.bd_model.specs.declared.design.Entry as entry
use Rattle.bd_model.specs.declared.table.Scalar.{Scalar}
use Rattle.bd_model.specs.declared.table.Scalar.TheVariants as scalar
use Rattle.bd_model.specs.declared.table.Value.{Value}
use Rattle.bd_model.specs.declared.table.Value.TheVariants as value
use Rattle.bd_terms.specs.declared.node.Sym.TheVariants as symbol
use Rattle.bd_terms.specs.declared.node.Node.{Node}
use Rattle.bd_terms.specs.declared.node.Node.TheVariants as node
use Rattle.bd_terms.specs.Graph.{AddsUses, Extends, IsGraph, Use, sort_at, uses}
use Rattle.bd_terms.specs.Denotation.{World, Denotes, Truth, Word, applied, contents, contents_of, denoted, denoted_sort, truth, truth_of, word, word_of}
use Rattle.bd_terms.proofs.Growth.{AddsUses-more, AddsUses-trans, Extends-self, Extends-trans, HasSort-Extends, denoted-Extends}
use Rattle.bd_symbolic.proofs.Arms.{IfOk-sort, iff_ites, truth-Extends}
use Rattle.bd_terms.proofs.Simplifying.{denoted-sort}
use Rattle.bd_terms.specs.Graph.{HasSort as TermHasSort}
use Rattle.bd_symbolic.specs.World.{denotes_value}
use Rattle.bd_symbolic.specs.Symbolic.{DenoteValues, HaveSorts}
use Rattle.bd_goal.specs.Symbols.{GrowsKnown, IsKnown, KeepsAddresses, address_use}
use Rattle.bd_goal.specs.Formula.{EqualFrom, is_memory, memory_count}
use Rattle.bd_symbolic.specs.Made.{Called, IsEquivalence}
use Rattle.bd_symbolic.proofs.Making.{called-Extends}
use Rattle.bd_goal.specs.Made.{AreEqual, AreEqualFrom, IsEquation}
use Rattle.bd_goal.proofs.Making.{equation-Extends, item-is}
use Rattle.bd_goal.specs.inner.Shown.{EqualIn, EqualTerms, Says, address_uses, are_equal}
use Rattle.bd_goal.proofs.Counting.{memories_in}
use Rattle.bd_goal.proofs.Lists.{drop-there, zip-length, zip-there}
use Rattle.bd_goal.proofs.Known.{KeepsAddresses-Known, Known-by, Known-none, Known-trans}
use Rattle.bd_model.specs.Limits.{most_items}

-- the value that a term of a sort denotes is of that sort
denoted_sort-value : (v : Value) → denoted_sort (denotes_value v) ≡ value_sort v
denoted_sort-value (value.Scalar (scalar.Bool b)) = refl
denoted_sort-value (value.Scalar (scalar.Word n)) = refl
denoted_sort-value (value.Memory m) = refl

value-sorted : (w : World) (nodes : List Node) → IsGraph nodes → (id : ℕ) (s : Sort) (v : Value) → TermHasSort nodes id s → denoted w nodes id ≡ denotes_value v → value_sort v ≡ s
value-sorted w nodes g id s v h e = sym (denoted_sort-value v) ∙ ap denoted_sort (sym e) ∙ denoted-sort w nodes g id h.inside ∙ h.sorted

-- one entry of two states
pub equal-entry : (address : ℕ → ℕ) (m : ℕ) (s : Sort) (x y : Value) (xs ys : List Value) → value_sort x ≡ s → value_sort y ≡ s
    → (IsTrue (are_equal s (address m) (denotes_value x) (denotes_value y)) × EqualFrom address (if is_memory s then suc m else m) xs ys) ↔ EqualFrom address m (x ∷ xs) (y ∷ ys)
equal-entry address m sort.Bool (value.Scalar (scalar.Bool b)) (value.Scalar (scalar.Bool c)) xs ys h k =
    (λ p. (ap (λ z. scalar.Bool z) ((booleans_Decides b c).0 p.0), p.1), λ p. ((booleans_Decides b c).1 (same_bool b c p.0), p.1)) where
      same_bool : (b c : Bool) → scalar.Bool b ≡ scalar.Bool c → b ≡ c
      same_bool b c e = cc
equal-entry address m sort.Bool (value.Scalar (scalar.Bool b)) (value.Scalar (scalar.Word n)) xs ys h k = absurd (cc k)
equal-entry address m sort.Bool (value.Scalar (scalar.Bool b)) (value.Memory n) xs ys h k = absurd (cc k)
equal-entry address m sort.Bool (value.Scalar (scalar.Word b)) y xs ys h k = absurd (cc h)
equal-entry address m sort.Bool (value.Memory b) y xs ys h k = absurd (cc h)
equal-entry address m sort.Word (value.Scalar (scalar.Word b)) (value.Scalar (scalar.Word c)) xs ys h k =
    (λ p. (ap (λ z. scalar.Word z) (eqb-true b c p.0), p.1), λ p. (eq-eqb b c (same_word b c p.0), p.1)) where
      same_word : (b c : ℕ) → scalar.Word b ≡ scalar.Word c → b ≡ c
      same_word b c e = cc
equal-entry address m sort.Word (value.Scalar (scalar.Word b)) (value.Scalar (scalar.Bool c)) xs ys h k = absurd (cc k)
equal-entry address m sort.Word (value.Scalar (scalar.Word b)) (value.Memory n) xs ys h k = absurd (cc k)
equal-entry address m sort.Word (value.Scalar (scalar.Bool b)) y xs ys h k = absurd (cc h)
equal-entry address m sort.Word (value.Memory b) y xs ys h k = absurd (cc h)
equal-entry address m sort.Memory (value.Memory b) (value.Memory c) xs ys h k =
    (λ p. (eqb-true (read b (address m)) (read c (address m)) p.0, p.1), λ p. (eq-eqb (read b (address m)) (read c (address m)) p.0, p.1))
equal-entry address m sort.Memory (value.Memory b) (value.Scalar y) xs ys h k = absurd (memory_no y k) where
  memory_no : (y : Scalar) → value_sort (value.Scalar y) ≡ sort.Memory → ⊥
  memory_no (scalar.Bool b) e = cc
  memory_no (scalar.Word n) e = cc
equal-entry address m sort.Memory (value.Scalar (scalar.Bool b)) y xs ys h k = absurd (cc h)
equal-entry address m sort.Memory (value.Scalar (scalar.Word n)) y xs ys h k = absurd (cc h)

-- the word of memory number m in a world
abbrev pub word_at : World → ℕ → ℕ → ℕ → ℕ
word_at w first stride m = applied w (symbol.Address (m * stride + first)) []

-- each memory has an address below
abbrev pub AreBelow : DesignView → ℕ → ℕ → ℕ → Type 0
AreBelow d first stride n = (m : ℕ) → m < memory_count d → m * stride + first < n

-- the first i entries are compared, of which so many are memories, and the rest is to come
pub record Equalled (d : DesignView) (old cur : List Node) (ours theirs : List ℕ) (first stride i all address : ℕ) : Type 0 where
  pub graph : IsGraph cur
  pub grows : (n : ℕ) → AreBelow d first stride n → GrowsKnown d n old cur
  pub extends : Extends old cur
  pub keeps : KeepsAddresses old → KeepsAddresses cur
  pub sorted : TermHasSort cur all sort.Bool
  pub count : ℕ
  pub counted : count + memories_in (drop i d.spec.entries) ≡ memory_count d
  pub number : address ≡ count * stride + first
  pub says : (w : World) (a b : List Value) → DenoteValues w old ours a → DenoteValues w old theirs b
      → (IsTrue (truth w cur all) × EqualFrom (word_at w first stride) count (drop i a) (drop i b)) ↔ EqualFrom (word_at w first stride) 0 a b
  pub made : (later : List Node) (id : ℕ) → Extends cur later → AreEqualFrom later ours theirs stride i address all (drop i d.spec.entries) id → AreEqual later d ours theirs first stride id

pub equalled-none : (d : DesignView) (old cur : List Node) (ours theirs : List ℕ) (first stride all : ℕ) → IsGraph cur → Extends old cur → AddsUses old cur [] → TermHasSort cur all sort.Bool → Denotes cur all (λ w. Truth true) → Called cur node.True all
    → Equalled d old cur ours theirs first stride 0 all first
equalled-none d old cur ours theirs first stride all g e u s is c = record {
  graph = g;
  grows = λ n below. Known-none d n old cur e u;
  extends = e;
  keeps = KeepsAddresses-Known d 0 old cur (Known-none d 0 old cur e u);
  sorted = s;
  count = 0;
  counted = none (memory_count d);
  number = number_none first stride;
  says = λ w a b ha hb. (λ h. h.1, λ h. (ap truth_of (is.is w), h));
  made = λ later id more j. (all, called-Extends cur later more node.True all c, j);
} where
  none : (n : ℕ) → 0 + n ≡ n
  none n = omega arith

  number_none : (first stride : ℕ) → first ≡ 0 * stride + first
  number_none first stride = omega arith

count-next : (s : Sort) (count rest total : ℕ) → count + ((if is_memory s then 1 else 0) + rest) ≡ total → (if is_memory s then suc count else count) + rest ≡ total
count-next sort.Bool count rest total h = omega (arith, h)
count-next sort.Word count rest total h = omega (arith, h)
count-next sort.Memory count rest total h = omega (arith, h)

number-next : (s : Sort) (count stride first address : ℕ) → address ≡ count * stride + first → address + (if is_memory s then stride else 0) ≡ (if is_memory s then suc count else count) * stride + first
number-next sort.Bool count stride first address h = omega (arith, h)
number-next sort.Word count stride first address h = omega (arith, h)
number-next sort.Memory count stride first address h = omega (arith, h)

-- the address of a memory is one of those that there are
known-address : (d : DesignView) (s : Sort) (count rest stride first address n : ℕ) → count + ((if is_memory s then 1 else 0) + rest) ≡ memory_count d → address ≡ count * stride + first → AreBelow d first stride n
    → (u : Use) → Contains (address_uses s address) u → IsKnown d n u
known-address d sort.Bool count rest stride first address n h e below u p = absurd (omega (arith, p.1))
known-address d sort.Word count rest stride first address n h e below u p = absurd (omega (arith, p.1))
known-address d sort.Memory count rest stride first address n h e below u (zero, within, is) =
    let inside : count * stride + first < n = below count (omega (arith, h)) in
    inr (address, omega (arith, inside, e), sym is)
known-address d sort.Memory count rest stride first address n h e below u (suc k, within, is) = absurd (omega (arith, within))

-- of whatever design the symbols are, an address more keeps the addresses
keeps-more : (cur mid : List Node) (s : Sort) (address : ℕ) → Extends cur mid → AddsUses cur mid (address_uses s address) → KeepsAddresses cur → KeepsAddresses mid
keeps-more cur mid s address e u k = record {
  keeps = λ i. record {
    keeps = λ v p is. elim (Contains-append_cases (uses cur) (address_uses s address) v (u.within v p)) [
      | inl q ↦ (k.keeps i).keeps v q is
      | inr q ↦ added s q
    ];
  };
} where
  added : (s : Sort) {v : Use} → Contains (address_uses s address) v → (v.arity ≡ 0) × (v.sort ≡ sort.Word)
  added sort.Bool p = absurd (omega (arith, p.1))
  added sort.Word p = absurd (omega (arith, p.1))
  added sort.Memory (zero, within, same) = (ap (λ (x : Use). x.arity) (sym same), ap (λ (x : Use). x.sort) (sym same))
  added sort.Memory (suc k, within, same) = absurd (omega (arith, within))

-- the terms at a place that is there
pub record IsAt (nodes : List Node) (ours theirs : List ℕ) (i our their : ℕ) (s : Sort) : Type 0 where
  pub at_ours : slice_get ours i ≡ Some our
  pub at_theirs : slice_get theirs i ≡ Some their
  pub our_sorted : TermHasSort nodes our s
  pub their_sorted : TermHasSort nodes their s

counted-there : (d : DesignView) (old cur : List Node) (ours theirs : List ℕ) (first stride i all address : ℕ) (x : entry.Entry) → slice_get d.spec.entries i ≡ Some x → (h : Equalled d old cur ours theirs first stride i all address)
    → h.count + ((if is_memory x.sort then 1 else 0) + memories_in (drop (i + 1) d.spec.entries)) ≡ memory_count d
counted-there d old cur ours theirs first stride i all address x there h =
    subst (λ k. h.count + k ≡ memory_count d) (ap memories_in (drop-there d.spec.entries i x there) ∙ sum_by-cons (λ (y : entry.Entry). if is_memory y.sort then 1 else 0) x (drop (i + 1) d.spec.entries)) h.counted

-- the graph grows by addresses that there are, also where a call is refused
pub equalled-refused : (d : DesignView) (old cur mid : List Node) (ours theirs : List ℕ) (first stride i all address our their : ℕ) (x : entry.Entry) (r : Result ℕ AllocError) → slice_get d.spec.entries i ≡ Some x
    → Equalled d old cur ours theirs first stride i all address → EqualTerms cur mid x.sort our their address r → (n : ℕ) → AreBelow d first stride n → GrowsKnown d n old mid
equalled-refused d old cur mid ours theirs first stride i all address our their x r there h t n below =
    Known-trans d n old cur mid (h.grows n below)
    (Known-by d n cur mid (address_uses x.sort address)
    (known-address d x.sort h.count (memories_in (drop (i + 1) d.spec.entries)) stride first address n (counted-there d old cur ours theirs first stride i all address x there h) h.number below) t.extends t.uses)

-- one entry more
pub equalled-next : (d : DesignView) (old cur mid new : List Node) (ours theirs : List ℕ) (first stride i all address our their one id : ℕ) (x : entry.Entry)
    → HaveSorts old ours (entry_sorts d.spec) → HaveSorts old theirs (entry_sorts d.spec) → IsAt old ours theirs i our their x.sort → slice_get d.spec.entries i ≡ Some x
    → IsGraph new → Equalled d old cur ours theirs first stride i all address → EqualTerms cur mid x.sort our their address (Ok one)
    → Extends mid new → AddsUses mid new [] → TermHasSort new id sort.Bool → Denotes new id (λ w. Truth (truth w mid all && truth w mid one)) → Called new (node.And all one) id
    → Equalled d old new ours theirs first stride (i + 1) id (address + (if is_memory x.sort then stride else 0))
equalled-next d old cur mid new ours theirs first stride i all address our their one id x so st at there g h t e u s is c =
    let counted = counted-there d old cur ours theirs first stride i all address x there h in
    record {
      graph = g;
      grows = λ n below.
          Known-trans d n old mid new (equalled-refused d old cur mid ours theirs first stride i all address our their x (Ok one) there h t n below)
          (Known-none d n mid new e u);
      extends = Extends-trans old mid new (Extends-trans old cur mid h.extends t.extends) e;
      keeps = λ k. KeepsAddresses-Known d 0 mid new (Known-none d 0 mid new e u) (keeps-more cur mid x.sort address t.extends t.uses (h.keeps k));
      sorted = s;
      count = if is_memory x.sort then suc h.count else h.count;
      counted = count-next x.sort h.count (memories_in (drop (i + 1) d.spec.entries)) (memory_count d) counted;
      number = number-next x.sort h.count stride first address h.number;
      says = λ w a b ha hb.
          let f : ℕ → ℕ = word_at w first stride in
          let va = zip-there (λ k v. denoted w old k ≡ denotes_value v) ours a i our ha at.at_ours in
          let vb = zip-there (λ k v. denoted w old k ≡ denotes_value v) theirs b i their hb at.at_theirs in
          let da : denoted w cur our ≡ denotes_value va.0 = denoted-Extends w old cur h.extends our at.our_sorted.inside ∙ va.2 in
          let db : denoted w cur their ≡ denotes_value vb.0 = denoted-Extends w old cur h.extends their at.their_sorted.inside ∙ vb.2 in
          let sa : value_sort va.0 ≡ x.sort = value-sorted w cur h.graph our x.sort va.0 (HasSort-Extends old cur h.extends our x.sort at.our_sorted) da in
          let sb : value_sort vb.0 ≡ x.sort = value-sorted w cur h.graph their x.sort vb.0 (HasSort-Extends old cur h.extends their x.sort at.their_sorted) db in
          let place : applied w (symbol.Address address) [] ≡ f h.count = ap (λ k. applied w (symbol.Address k) []) h.number in
          let meant : truth w mid one ≡ are_equal x.sort (f h.count) (denotes_value va.0) (denotes_value vb.0) =
          t.denotes w ∙ ap (λ k. are_equal x.sort k (denoted w cur our) (denoted w cur their)) place
          ∙ ap (λ k. are_equal x.sort (f h.count) k (denoted w cur their)) da ∙ ap (λ k. are_equal x.sort (f h.count) (denotes_value va.0) k) db in
          let kept : truth w mid all ≡ truth w cur all = truth-Extends w cur mid t.extends all sort.Bool h.sorted in
          let both : truth w new id ≡ (truth w cur all && are_equal x.sort (f h.count) (denotes_value va.0) (denotes_value vb.0)) =
          ap truth_of (is.is w) ∙ ap (λ k. k && truth w mid one) kept ∙ ap (λ k. truth w cur all && k) meant in
          equal-joined (truth w cur all) (are_equal x.sort (f h.count) (denotes_value va.0) (denotes_value vb.0)) (truth w new id)
          (EqualFrom f (if is_memory x.sort then suc h.count else h.count) (drop (i + 1) a) (drop (i + 1) b)) (EqualFrom f h.count (drop i a) (drop i b)) (EqualFrom f 0 a b) both
          (subst (λ l. (IsTrue (are_equal x.sort (f h.count) (denotes_value va.0) (denotes_value vb.0)) × EqualFrom f (if is_memory x.sort then suc h.count else h.count) (drop (i + 1) a) (drop (i + 1) b)) ↔ EqualFrom f h.count l (drop i b))
          (sym (drop-there a i va.0 va.1))
          (subst (λ l. (IsTrue (are_equal x.sort (f h.count) (denotes_value va.0) (denotes_value vb.0)) × EqualFrom f (if is_memory x.sort then suc h.count else h.count) (drop (i + 1) a) (drop (i + 1) b)) ↔ EqualFrom f h.count (va.0 ∷ drop (i + 1) a) l)
          (sym (drop-there b i vb.0 vb.1))
          (equal-entry f h.count x.sort va.0 vb.0 (drop (i + 1) a) (drop (i + 1) b) sa sb)))
          (h.says w a b ha hb);
      made = λ later k more j.
          let from : Extends mid later = Extends-trans mid new later e more in
          let front : IsEquation later x.sort our their address one = equation-Extends mid later from x.sort our their address one t.made in
          let placed : IsEquation later x.sort (slice_index_or ours i 0) (slice_index_or theirs i 0) address one =
          subst (λ a. IsEquation later x.sort a (slice_index_or theirs i 0) address one) (item-is ours i our at.at_ours) (subst (λ b. IsEquation later x.sort our b address one) (item-is theirs i their at.at_theirs) front) in
          h.made later k (Extends-trans cur mid later t.extends from)
          (subst (λ l. AreEqualFrom later ours theirs stride i address all l k) (sym (drop-there d.spec.entries i x there)) (one, id, placed, called-Extends new later more (node.And all one) id c, j));
    } where
      equal-joined : (p q r : Bool) (Rest Front Whole : Type 0) → r ≡ (p && q) → (IsTrue q × Rest) ↔ Front → (IsTrue p × Front) ↔ Whole → (IsTrue r × Rest) ↔ Whole
      equal-joined true q r Rest Front Whole e one two = (λ h. two.0 (refl, one.0 (sym e ∙ h.0, h.1)), λ h. let k = one.1 (two.1 h).1 in (e ∙ k.0, k.1))
      equal-joined false q r Rest Front Whole e one two = (λ h. absurd (cc (e, h.0)), λ h. absurd (cc (two.1 h).0))

-- after the last entry the calls are those for two equal states
pub equalled-made : (d : DesignView) (old cur : List Node) (ours theirs : List ℕ) (first stride i all address : ℕ) → length d.spec.entries ≤ i → Equalled d old cur ours theirs first stride i all address → AreEqual cur d ours theirs first stride all
equalled-made d old cur ours theirs first stride i all address past h =
    h.made cur all (Extends-self cur) (subst (λ l. AreEqualFrom cur ours theirs stride i address all l all) (sym (drop_all i d.spec.entries past)) refl)

pub equalled-all : (d : DesignView) (old cur : List Node) (ours theirs : List ℕ) (first stride i all address : ℕ) → HaveSorts old ours (entry_sorts d.spec) → HaveSorts old theirs (entry_sorts d.spec) → length d.spec.entries ≤ i
    → Equalled d old cur ours theirs first stride i all address → (w : World) (a b : List Value) → DenoteValues w old ours a → DenoteValues w old theirs b
    → Says w cur all (EqualIn w (λ m. m * stride + first) a b)
equalled-all d old cur ours theirs first stride i all address so st past h w a b ha hb =
    let la : length a ≤ i = omega (arith, past, zip-length (λ k v. denoted w old k ≡ denotes_value v) ours a ha, zip-length (TermHasSort old) ours (entry_sorts d.spec) so, length-map d.spec.entries (λ (x : entry.Entry). x.sort)) in
    let lb : length b ≤ i = omega (arith, past, zip-length (λ k v. denoted w old k ≡ denotes_value v) theirs b hb, zip-length (TermHasSort old) theirs (entry_sorts d.spec) st, length-map d.spec.entries (λ (x : entry.Entry). x.sort)) in
    let both = h.says w a b ha hb in
    let ends : EqualFrom (word_at w first stride) h.count (drop i a) (drop i b) =
    subst (λ l. EqualFrom (word_at w first stride) h.count l (drop i b)) (sym (drop_all i a la)) (subst (λ l. EqualFrom (word_at w first stride) h.count [] l) (sym (drop_all i b lb)) tt) in
    (λ t. both.0 (t, ends), λ e. (both.1 e).0)

-- that two truth values are equal
pub equal_bits : (old mid new : List Node) (a b n address : ℕ) (r : Result ℕ AllocError) → IsGraph mid → TermHasSort old a sort.Bool → TermHasSort old b sort.Bool → Extends old mid → AddsUses old mid []
    → Denotes mid n (λ v. Truth (not (truth v old b))) → IfOk r (λ id. Denotes new id (λ w. if truth w mid a then denoted w mid b else denoted w mid n)) → IfOk r (λ id. TermHasSort new id (sort_at mid b))
    → Extends mid new → AddsUses mid new [] → IfOk r (IsEquivalence new a b) → EqualTerms old new sort.Bool a b address r
equal_bits old mid new a b n address r g ha hb e u d t s e' u' m = record {
  sorted = IfOk-sort r new (sort_at mid b) sort.Bool (HasSort-Extends old mid e b sort.Bool hb).sorted s;
  denotes = IfOk-weaker r _ _ (λ id k w. ap truth_of (k.is w)) (iff_ites old mid new a b n r g e ha hb d t);
  extends = Extends-trans old mid new e e';
  uses = AddsUses-trans old mid new [] u u';
  made = m;
}

-- that two words are equal
pub equal_words : (old new : List Node) (a b address : ℕ) (r : Result ℕ AllocError) → IfOk r (λ id. Denotes new id (λ w. Truth (word w old a == word w old b))) → IfOk r (λ id. TermHasSort new id sort.Bool) → Extends old new → AddsUses old new []
    → IfOk r (Called new (node.Eq a b)) → EqualTerms old new sort.Word a b address r
equal_words old new a b address r t s e u m = record { sorted = s; denotes = IfOk-weaker r _ _ (λ id k w. ap truth_of (k.is w)) t; extends = e; uses = u; made = m }

word-later : (w : World) (old new : List Node) → Extends old new → (id : ℕ) → TermHasSort old id sort.Word → word w new id ≡ word w old id
word-later w old new e id h = ap word_of (denoted-Extends w old new e id h.inside)

no_more : (old new : List Node) (more : List Use) → AddsUses old new [] → AddsUses old new more
no_more old new more u = AddsUses-more old new [] more (λ x p. absurd (omega (arith, p.1))) u

-- that two memories read equal at an address
pub equal_reads : (old g1 g2 g3 new : List Node) (a b p x y address : ℕ) (r : Result ℕ AllocError) → TermHasSort old a sort.Memory → TermHasSort old b sort.Memory
    → Extends old g1 → AddsUses old g1 (address_use address ∷ []) → TermHasSort g1 p sort.Word → Denotes g1 p (λ w. Word (applied w (symbol.Address address) []))
    → Extends g1 g2 → AddsUses g1 g2 [] → TermHasSort g2 x sort.Word → Denotes g2 x (λ w. Word (contents w g1 a (word w g1 p)))
    → Extends g2 g3 → AddsUses g2 g3 [] → Denotes g3 y (λ w. Word (contents w g2 b (word w g2 p)))
    → IfOk r (λ id. Denotes new id (λ w. Truth (word w g3 x == word w g3 y))) → IfOk r (λ id. TermHasSort new id sort.Bool) → Extends g3 new → AddsUses g3 new []
    → Called g1 (node.App (symbol.Address address) []) p → Called g2 (node.Read a p) x → Called g3 (node.Read b p) y → IfOk r (Called new (node.Eq x y))
    → EqualTerms old new sort.Memory a b address r
equal_reads old g1 g2 g3 new a b p x y address r ha hb e1 u1 sp dp e2 u2 sx dx e3 u3 dy t s e4 u4 c1 c2 c3 c4 = record {
  sorted = s;
  denotes = IfOk-weaker r _ _ (λ id k w. ap truth_of (k.is w) ∙ ap (λ m. m == word w g3 y) (ours w) ∙ ap (λ m. contents_of (denoted w old a) (applied w (symbol.Address address) []) == m) (theirs w)) t;
  extends = Extends-trans old g3 new (Extends-trans old g2 g3 (Extends-trans old g1 g2 e1 e2) e3) e4;
  uses =
      AddsUses-trans old g3 new (address_use address ∷ [])
      (AddsUses-trans old g2 g3 (address_use address ∷ []) (AddsUses-trans old g1 g2 (address_use address ∷ []) u1 (no_more g1 g2 (address_use address ∷ []) u2)) (no_more g2 g3 (address_use address ∷ []) u3))
      (no_more g3 new (address_use address ∷ []) u4);
  made = IfOk-weaker r (Called new (node.Eq x y)) _ (λ id k. (
    p,
    x,
    y,
    called-Extends g1 new (Extends-trans g1 g2 new e2 (Extends-trans g2 g3 new e3 e4)) (node.App (symbol.Address address) []) p c1,
    called-Extends g2 new (Extends-trans g2 g3 new e3 e4) (node.Read a p) x c2,
    called-Extends g3 new e4 (node.Read b p) y c3,
    k,
  )) c4;
} where
  place : (w : World) → word w g1 p ≡ applied w (symbol.Address address) []
  place w = ap word_of (dp.is w)

  ours : (w : World) → word w g3 x ≡ contents_of (denoted w old a) (applied w (symbol.Address address) [])
  ours w =
      word-later w g2 g3 e3 x sx ∙ ap word_of (dx.is w) ∙ ap (λ m. contents_of m (word w g1 p)) (denoted-Extends w old g1 e1 a ha.inside)
      ∙ ap (λ k. contents_of (denoted w old a) k) (place w)

  theirs : (w : World) → word w g3 y ≡ contents_of (denoted w old b) (applied w (symbol.Address address) [])
  theirs w =
      ap word_of (dy.is w) ∙ ap (λ m. contents_of m (word w g2 p)) (denoted-Extends w old g2 (Extends-trans old g1 g2 e1 e2) b hb.inside)
      ∙ ap (λ k. contents_of (denoted w old b) k) (word-later w g1 g2 e2 p sp ∙ place w)

-- an address and no more
pub address_added : (old g1 g2 : List Node) (address : ℕ) → AddsUses old g1 (address_use address ∷ []) → AddsUses g1 g2 [] → AddsUses old g2 (address_use address ∷ [])
address_added old g1 g2 address u v = AddsUses-trans old g1 g2 (address_use address ∷ []) u (no_more g1 g2 (address_use address ∷ []) v)

sorted-there : (d : DesignView) (nodes : List Node) (ids : List ℕ) (i id : ℕ) (x : entry.Entry) → HaveSorts nodes ids (entry_sorts d.spec) → slice_get d.spec.entries i ≡ Some x → slice_get ids i ≡ Some id → TermHasSort nodes id x.sort
sorted-there d nodes ids i id x h there at =
    let found = zip-there (TermHasSort nodes) ids (entry_sorts d.spec) i id h at in
    subst (TermHasSort nodes id) (same_some found.0 x.sort (sym found.1 ∙ slice_get-map (λ (y : entry.Entry). y.sort) d.spec.entries i ∙ ap (λ o. option_map (λ (y : entry.Entry). y.sort) o) there)) found.2 where
      same_some : (s t : Sort) → Some s ≡ Some t → s ≡ t
      same_some s t e = cc

pub is-at : (d : DesignView) (nodes : List Node) (ours theirs : List ℕ) (i our their : ℕ) (x : entry.Entry) → HaveSorts nodes ours (entry_sorts d.spec) → HaveSorts nodes theirs (entry_sorts d.spec)
    → slice_get d.spec.entries i ≡ Some x → slice_get ours i ≡ Some our → slice_get theirs i ≡ Some their → IsAt nodes ours theirs i our their x.sort
is-at d nodes ours theirs i our their x ho ht there at_ours at_theirs = record {
  at_ours = at_ours;
  at_theirs = at_theirs;
  our_sorted = sorted-there d nodes ours i our x ho there at_ours;
  their_sorted = sorted-there d nodes theirs i their x ht there at_theirs;
}

pub ids-length : (d : DesignView) (nodes : List Node) (ids : List ℕ) → HaveSorts nodes ids (entry_sorts d.spec) → length ids ≡ length d.spec.entries
ids-length d nodes ids h = zip-length (TermHasSort nodes) ids (entry_sorts d.spec) h ∙ length-map d.spec.entries (λ (x : entry.Entry). x.sort)

pub advance-le : (kind : Sort) (stride : ℕ) → (if is_memory kind then stride else 0) ≤ stride
advance-le sort.Bool stride = omega arith
advance-le sort.Word stride = omega arith
advance-le sort.Memory stride = omega arith

-- no address overflows
pub address-fits : (d : DesignView) (old cur : List Node) (ours theirs : List ℕ) (first stride i all address : ℕ) → IsLawful d → stride ≤ 9 → Equalled d old cur ours theirs first stride i all address → address ≤ 18874368 + first
address-fits d old cur ours theirs first stride i all address lawful few h =
    let total : memory_count d ≤ most_items = omega (arith, count_by-le-length (λ (x : entry.Entry). is_memory x.sort) d.spec.entries, lawful.spec.short.0) in
    let count : h.count ≤ most_items = omega (arith, h.counted, total) in
    let product : h.count * stride ≤ most_items * 9 = mul-le-mul count few in
    omega (arith, product, h.number)
