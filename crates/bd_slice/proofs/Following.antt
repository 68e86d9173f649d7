-- Values of another case, followed.
use Rattle.std.proofs.Common.{◌≡◌, ℕ, zero, suc, ◌+◌, ◌<◌, ◌≤◌, Bool, true, false, List, [], ◌∷◌, ◌++◌, length, map, drop, take, get_or, IsTrue, refl, sym, ap, subst, ◌∙◌, arith, add-one, drop-cons}
use Rattle.std.specs.Prelude.{not, ◌||◌, ◌&&◌, ◌==◌, slice_index_or, if◌then◌else◌}
use Rattle.std.specs.List.{list_all, list_any}
use Rattle.std.proofs.lemmas.List.{drop_all, take_more}
use Rattle.bd_list.proofs.Truths.{neither}
use Rattle.bd_model.specs.Table.{read, write}
use Rattle.bd_model.specs.Value.{truth, scalar_of, scalar_truth, memory_of}
use Rattle.bd_model.specs.declared.table.Scalar.{Scalar}
use Rattle.bd_model.specs.declared.table.Scalar.TheVariants as scalar
use Rattle.bd_model.specs.declared.table.Memory.{Memory}
use Rattle.bd_model.specs.declared.table.Value.{Value}
use Rattle.bd_model.specs.declared.table.Value.TheVariants as value
use Rattle.bd_slice.specs.declared.kept.Traced.{Traced}
use Rattle.bd_slice.specs.declared.kept.TracedWord.{TracedWord}
use Rattle.bd_slice.specs.declared.kept.Base.{Base}
use Rattle.bd_slice.specs.declared.kept.Link.{Link}
use Rattle.bd_slice.specs.declared.kept.Link.TheVariants as link
use Rattle.bd_slice.specs.declared.kept.Kept.{Kept}
use Rattle.bd_slice.specs.declared.kept.Kept.TheVariants as kept
use Rattle.bd_slice.specs.inner.Followed.{Other, Follows, FollowsMemory, FollowsKept, FollowsState, FollowsInputs, ReadsBelow, scalar_kept, memory_kept, nothing_kept, no_scalar, base_memory}

both_true : (s t : Bool) → (s && t) ≡ true → (s ≡ true) × (t ≡ true)
both_true true t h = (refl, h)
both_true false t h = absurd (cc h)

and_false : (s : Bool) → (s && false) ≡ false
and_false true = refl
and_false false = refl

or_true : (s : Bool) → (s || true) ≡ true
or_true true = refl
or_true false = refl

pub implied_false : (x p y q : Scalar) → x ≡ p → y ≡ q → scalar_truth p ≡ true → scalar_truth q ≡ false → scalar.Bool (not (scalar_truth x) || scalar_truth y) ≡ scalar.Bool false
implied_false x p y q e f s t = rw (e, f, s, t)

-- a kept value that is followed is followed as a scalar, and as a memory
pub follows_scalar : (o : Other) (k : Kept) (v : Value) → FollowsKept o k v → Follows o (scalar_kept k) (scalar_of v)
follows_scalar o (kept.Scalar t) v h = λ has. ap scalar_of (h has)
follows_scalar o (kept.Memory m) v h = h.1

pub follows_memory : (o : Other) (k : Kept) (v : Value) → FollowsKept o k v → FollowsMemory o (memory_kept k) (memory_of v)
follows_memory o (kept.Scalar t) v h = λ has. ap memory_of (h has)
follows_memory o (kept.Memory m) v h = h.0

-- a scalar that is followed is kept
pub follows_kept : (o : Other) (t : Traced) (x : Scalar) → Follows o t x → FollowsKept o (kept.Scalar t) (value.Scalar x)
follows_kept o t x h = λ has. ap value.Scalar (h has)

-- what stands at a place is followed, and so is what stands at none
pub follows_at : (o : Other) (ks : List Kept) (vs : List Value) (i : ℕ) → FollowsState o ks vs → FollowsKept o (slice_index_or ks i nothing_kept) (slice_index_or vs i (truth false))
follows_at o [] [] i h = λ has. refl
follows_at o [] (v ∷ vs) i h = absurd h
follows_at o (k ∷ ks) [] i h = absurd h
follows_at o (k ∷ ks) (v ∷ vs) zero h = h.0
follows_at o (k ∷ ks) (v ∷ vs) (suc i) h = follows_at o ks vs i h.1

pub follows_input : (o : Other) (ts : List Traced) (xs : List Scalar) (i : ℕ) → FollowsInputs o ts xs → Follows o (slice_index_or ts i no_scalar) (slice_index_or xs i (scalar.Bool false))
follows_input o [] [] i h = λ has. refl
follows_input o [] (x ∷ xs) i h = absurd h
follows_input o (t ∷ ts) [] i h = absurd h
follows_input o (t ∷ ts) (x ∷ xs) zero h = h.0
follows_input o (t ∷ ts) (x ∷ xs) (suc i) h = follows_input o ts xs i h.1

-- ---- reads that go down the links
pub reads_under : (o : Other) (b : Base) (n : ℕ) (rest : List Link) (a : ℕ) (m : Memory) → ReadsBelow o b (link.Under n ∷ rest) a m → IsTrue (o.has n) → ReadsBelow o b rest a m
reads_under o b n rest a m h has = record { memory = h.memory; follows = h.follows has; same = h.same }

pub read_written : (m : Memory) (at put a : ℕ) (t : Bool) → (at == a) ≡ t → read (write m at put) a ≡ (if t then put else read m a)
read_written m at put a t e = rw e

pub reads_past : (o : Other) (b : Base) (w d : TracedWord) (rest : List Link) (a : ℕ) (m : Memory) → ReadsBelow o b (link.Write w d ∷ rest) a m → IsTrue (o.has w.node) → (w.word == a) ≡ false → ReadsBelow o b rest a m
reads_past o b w d rest a m h has other =
    let f = h.follows in
    let e : (f.at == a) ≡ false = ap (λ n. n == a) (f.is_at has) ∙ other in
    record { memory = f.memory; follows = f.is_below; same = h.same ∙ ap (λ n. read n a) f.made ∙ read_written f.memory f.at f.put a false e }

pub reads_met : (o : Other) (b : Base) (w d : TracedWord) (rest : List Link) (a : ℕ) (m : Memory) → ReadsBelow o b (link.Write w d ∷ rest) a m → IsTrue (o.has w.node) → (w.word == a) ≡ true → IsTrue (o.has d.node)
    → read m a ≡ d.word
reads_met o b w d rest a m h has same put =
    let f = h.follows in
    let e : (f.at == a) ≡ true = ap (λ n. n == a) (f.is_at has) ∙ same in
    h.same ∙ ap (λ n. read n a) f.made ∙ read_written f.memory f.at f.put a true e ∙ f.is_put put

-- the next link stands in front
pub next_link : (o : Other) (b : Base) (items : List Link) (i : ℕ) (d l : Link) (a : ℕ) (m : Memory) → i < length items → get_or items i d ≡ l → ReadsBelow o b (drop i items) a m → ReadsBelow o b (l ∷ drop (i + 1) items) a m
next_link o b items i d l a m within is h =
    let front = drop-cons items i d within in
    let e : drop i items ≡ l ∷ drop (i + 1) items = rw (add-one, front) (ap (λ x. x ∷ drop (suc i) items) is) in
    subst (λ (r : List Link). ReadsBelow o b r a m) e h

-- after the last link, what the memory has is what its base has
pub reads_end : (o : Other) (b : Base) (items : List Link) (i : ℕ) (a : ℕ) (m : Memory) → length items ≤ i → ReadsBelow o b (drop i items) a m → read m a ≡ read (base_memory o.case b) a
reads_end o b items i a m past h =
    let e = subst (λ (r : List Link). ReadsBelow o b r a m) (drop_all i items past) h in
    e.same ∙ ap (λ n. read n a) e.follows

-- ---- lists of parts, from the front
pub all_more : {X : Type 0} → (p : X → Bool) (xs : List X) (i : ℕ) (d : X) → i < length xs → list_all p (take i xs) ≡ true → p (get_or xs i d) ≡ true → list_all p (take (suc i) xs) ≡ true
all_more p [] i d within front here = absurd (omega (arith, within))
all_more p (x ∷ xs) zero d within front here = rw here
all_more p (x ∷ xs) (suc i) d within front here =
    let f = both_true (p x) (list_all p (take i xs)) front in
    let rest = all_more p xs i d (omega (arith, within)) f.1 here in
    rw (f.0, rest)

pub all_not : {X : Type 0} → (p : X → Bool) (xs : List X) (i : ℕ) (d : X) → i < length xs → p (get_or xs i d) ≡ false → list_all p xs ≡ false
all_not p [] i d within here = absurd (omega (arith, within))
all_not p (x ∷ xs) zero d within here = rw here
all_not p (x ∷ xs) (suc i) d within here =
    let rest = all_not p xs i d (omega (arith, within)) here in
    rw rest (and_false (p x))

pub none_more : {X : Type 0} → (p : X → Bool) (xs : List X) (i : ℕ) (d : X) → i < length xs → list_any p (take i xs) ≡ false → p (get_or xs i d) ≡ false → list_any p (take (suc i) xs) ≡ false
none_more p [] i d within front here = absurd (omega (arith, within))
none_more p (x ∷ xs) zero d within front here = rw here
none_more p (x ∷ xs) (suc i) d within front here =
    let f = neither (p x) (list_any p (take i xs)) front in
    let rest = none_more p xs i d (omega (arith, within)) f.1 here in
    rw (f.0, rest)

pub any_at : {X : Type 0} → (p : X → Bool) (xs : List X) (i : ℕ) (d : X) → i < length xs → p (get_or xs i d) ≡ true → list_any p xs ≡ true
any_at p [] i d within here = absurd (omega (arith, within))
any_at p (x ∷ xs) zero d within here = rw here
any_at p (x ∷ xs) (suc i) d within here =
    let rest = any_at p xs i d (omega (arith, within)) here in
    rw rest (or_true (p x))

-- the parts of an expression, valued one by one
all_map : {X : Type 0} → (p : Value → Bool) (f : X → Value) (xs : List X) → list_all p (map f xs) ≡ list_all (λ x. p (f x)) xs
all_map p f [] = refl
all_map p f (x ∷ xs) = ap (λ b. p (f x) && b) (all_map p f xs)

any_map : {X : Type 0} → (p : Value → Bool) (f : X → Value) (xs : List X) → list_any p (map f xs) ≡ list_any (λ x. p (f x)) xs
any_map p f [] = refl
any_map p f (x ∷ xs) = ap (λ b. p (f x) || b) (any_map p f xs)

pub all_parts_more : {X : Type 0} → (p : Value → Bool) (f : X → Value) (xs : List X) (i : ℕ) (x : X) → i < length xs → x ≡ get_or xs i x → list_all p (map f (take i xs)) ≡ true → p (f x) ≡ true
    → list_all p (map f (take (i + 1) xs)) ≡ true
all_parts_more p f xs i x within is front here =
    rw add-one (all_map p f (take (suc i) xs) ∙ all_more (λ y. p (f y)) xs i x within (sym (all_map p f (take i xs)) ∙ front) (ap (λ y. p (f y)) (sym is) ∙ here))

pub all_parts_not : {X : Type 0} → (p : Value → Bool) (f : X → Value) (xs : List X) (i : ℕ) (x : X) → i < length xs → x ≡ get_or xs i x → p (f x) ≡ false → list_all p (map f xs) ≡ false
all_parts_not p f xs i x within is here =
    all_map p f xs ∙ all_not (λ y. p (f y)) xs i x within (ap (λ y. p (f y)) (sym is) ∙ here)

pub no_parts_more : {X : Type 0} → (p : Value → Bool) (f : X → Value) (xs : List X) (i : ℕ) (x : X) → i < length xs → x ≡ get_or xs i x → list_any p (map f (take i xs)) ≡ false → p (f x) ≡ false
    → list_any p (map f (take (i + 1) xs)) ≡ false
no_parts_more p f xs i x within is front here =
    rw add-one (any_map p f (take (suc i) xs) ∙ none_more (λ y. p (f y)) xs i x within (sym (any_map p f (take i xs)) ∙ front) (ap (λ y. p (f y)) (sym is) ∙ here))

pub some_part : {X : Type 0} → (p : Value → Bool) (f : X → Value) (xs : List X) (i : ℕ) (x : X) → i < length xs → x ≡ get_or xs i x → p (f x) ≡ true → list_any p (map f xs) ≡ true
some_part p f xs i x within is here =
    any_map p f xs ∙ any_at (λ y. p (f y)) xs i x within (ap (λ y. p (f y)) (sym is) ∙ here)

map-append : {X Y : Type 0} → (f : X → Y) (xs ys : List X) → map f (xs ++ ys) ≡ map f xs ++ map f ys
map-append f [] ys = refl
map-append f (x ∷ xs) ys = ap (λ zs. f x ∷ zs) (map-append f xs ys)

-- one item more, of a list that is mapped
pub mapped_more : {X Y : Type 0} → (f : X → Y) (xs : List X) (i : ℕ) (x : X) (done : List Y) (y : Y) → i < length xs → x ≡ get_or xs i x → map f (take i xs) ≡ done → f x ≡ y → map f (take (i + 1) xs) ≡ done ++ y ∷ []
mapped_more f xs i x done y within is before here =
    ap (map f) (take_more xs i x within) ∙ map-append f (take i xs) (get_or xs i x ∷ []) ∙ ap (λ zs. zs ++ f (get_or xs i x) ∷ []) before ∙ ap (λ z. done ++ z ∷ []) (ap f (sym is) ∙ here)

-- the word of a scalar is that of what is the same
pub same_truth_of : (x y : Scalar) (t : Bool) → x ≡ y → t ≡ scalar_truth y → scalar_truth x ≡ t
same_truth_of x y t e is = ap scalar_truth e ∙ sym is

-- a choice, once its condition is known
pub ite_true : (x : Bool) (a b : Value) → x ≡ true → (if x then a else b) ≡ a
ite_true x a b e = rw e

pub ite_false : (x : Bool) (a b : Value) → x ≡ false → (if x then a else b) ≡ b
ite_false x a b e = rw e
