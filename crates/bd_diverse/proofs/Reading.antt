-- A world in which positive applications have values of their own, read back in another: what the root denotes there it
-- denotes in the other.
use Rattle.std.proofs.Common.{◌≡◌, ◌≢◌, ◌⊎◌, inl, inr, ℕ, zero, suc, ◌+◌, ◌-◌, ◌<◌, ◌≤◌, Bool, true, false, not, ◌&&◌, ◌||◌, ◌==◌, if◌then◌else◌, List, [], ◌∷◌, length, map, slice_get, slice_index_or, Some, Contains, IsTrue, refl, ap, sym, ◌∙◌, subst, arith, true≢false, eqb-true, eq-eqb}
use Rattle.std.specs.Prelude.{nat_le}
use Rattle.std.proofs.lemmas.Bool.{and_parts, and_from, le-leb, lt-leb}
use Rattle.std.proofs.lemmas.Option.{same_Some, slice_get-get_or, slice_get_within}
use Rattle.std.proofs.lemmas.List.Elements.{Contains-append_right}
use Rattle.bd_terms.specs.declared.node.Sym.{Sym}
use Rattle.bd_terms.specs.declared.node.Sym.TheVariants.{Function}
use Rattle.bd_terms.specs.declared.node.Node.{Node}
use Rattle.bd_terms.specs.declared.node.Node.TheVariants.{True, Not, And, Or, Ite, Eq, App, Pred, Read, Write, Init}
use Rattle.bd_terms.specs.Graph.{IsGraph, children}
use Rattle.bd_terms.specs.Denotation.{World, Denoted, Truth, Word, applied, at_place, denoted, holds, node_value, truth, truth_of, values, word, word_of, words}
use Rattle.bd_terms.specs.Reaches.{Reaches}
use Rattle.bd_terms.proofs.Denotations.{denoted-get}
use Rattle.bd_terms.proofs.Older.{Reaches-below}
use Rattle.bd_terms.proofs.Reaching.{children-below}
use Rattle.bd_function.specs.Flat.{ReachesNoMemory}
use Rattle.bd_function.proofs.Flattening.{plain_reached}
use Rattle.bd_diverse.specs.Positive.{Way, Even, Odd, Control, Compared, Free, Applies, IsPositive, Walks, Root, Step, negated, side, steps}
use Rattle.bd_diverse.specs.Diverse.{IsDiverse, IsReached}
use Rattle.bd_diverse.proofs.Walking.{Contains-map, step_child}
use Rattle.bd_diverse.proofs.Passing.{Walks-reaches, reached-walked}
use Rattle.bd_list.proofs.Membership.{first, second, third}
use Rattle.bd_list.proofs.Truths.{or_left, or_right, or_cases}

-- the value of its own that the application at a place has
abbrev pub own : ℕ → ℕ → ℕ
own bound from = suc (bound + from)

-- the first reached application of the symbol to words of equal values in the new world gives the value: one of its own
-- where the symbol is positive, else that of the old world
pub record FromWord (old new : World) (nodes : List Node) (root bound : ℕ) (id : ℕ) (symbol : Sym) (args : List ℕ) : Type 0 where
  pub from : ℕ
  pub terms : List ℕ
  pub early : from ≤ id
  pub reached : Reaches nodes root from
  pub there : slice_get nodes from ≡ Some (App symbol terms)
  pub same : words new nodes terms ≡ words new nodes args
  pub value : (IsPositive nodes root symbol × (word new nodes id ≡ own bound from))
      ⊎ ((¬ IsPositive nodes root symbol) × (word new nodes id ≡ word old nodes from))

pub record FromTruth (old new : World) (nodes : List Node) (root : ℕ) (id : ℕ) (symbol : Sym) (args : List ℕ) : Type 0 where
  pub from : ℕ
  pub terms : List ℕ
  pub early : from ≤ id
  pub reached : Reaches nodes root from
  pub there : slice_get nodes from ≡ Some (Pred symbol terms)
  pub same : words new nodes terms ≡ words new nodes args
  pub value : truth new nodes id ≡ truth old nodes from

-- a function of no arguments has its old value, or one of its own
pub record OwnConstant (new : World) (nodes : List Node) (bound : ℕ) (symbol : Sym) : Type 0 where
  pub from : ℕ
  pub there : slice_get nodes from ≡ Some (App symbol [])
  pub value : applied new symbol [] ≡ own bound from

pub record IsSpread (old new : World) (nodes : List Node) (root bound : ℕ) : Type 0 where
  pub applications : (id : ℕ) (symbol : Sym) (args : List ℕ) → Reaches nodes root id → slice_get nodes id ≡ Some (App symbol args) → FromWord old new nodes root bound id symbol args
  pub predicates : (id : ℕ) (symbol : Sym) (args : List ℕ) → Reaches nodes root id → slice_get nodes id ≡ Some (Pred symbol args) → FromTruth old new nodes root id symbol args
  pub constants : (symbol : Sym) → (applied new symbol [] ≡ applied old symbol []) ⊎ OwnConstant new nodes bound symbol
  pub small : (id : ℕ) → Reaches nodes root id → word old nodes id ≤ bound

not_mono : (a b : Bool) → (b ≡ true → a ≡ true) → not a ≡ true → not b ≡ true
not_mono true b h k = absurd (true≢false (sym k))
not_mono false true h k = absurd (true≢false (sym (h refl)))
not_mono false false h k = refl

and_mono : (a b c d : Bool) → (a ≡ true → c ≡ true) → (b ≡ true → d ≡ true) → (a && b) ≡ true → (c && d) ≡ true
and_mono a b c d h k m = let p = and_parts a b m in and_from c d (h p.0) (k p.1)

or_mono : (a b c d : Bool) → (a ≡ true → c ≡ true) → (b ≡ true → d ≡ true) → (a || b) ≡ true → (c || d) ≡ true
or_mono a b c d h k m = elim (or_cases a b m) [ inl p ↦ or_left c d (h p) | inr p ↦ or_right c d (k p) ]

-- what a new and an old truth value have to do with each other
abbrev pub TruthClaim : Way → Bool → Bool → Type 0
TruthClaim Even x y = x ≡ true → y ≡ true
TruthClaim Odd x y = y ≡ true → x ≡ true
TruthClaim Control x y = x ≡ y
TruthClaim Compared x y = Unit {0}
TruthClaim Free x y = Unit {0}

-- and what the denotations have, by the way of a walk, where new words are read as old ones
abbrev pub Claim : (ℕ → ℕ) → Way → Denoted → Denoted → Type 0
Claim read Even x y = truth_of x ≡ true → truth_of y ≡ true
Claim read Odd x y = truth_of y ≡ true → truth_of x ≡ true
Claim read Control x y = truth_of x ≡ truth_of y
Claim read Compared x y = word_of x ≡ word_of y
Claim read Free x y = read (word_of x) ≡ word_of y

claim_truth : (read : ℕ → ℕ) → read 0 ≡ 0 → (way : Way) (x y : Bool) → TruthClaim way x y → Claim read way (Truth x) (Truth y)
claim_truth read z Even x y h = h
claim_truth read z Odd x y h = h
claim_truth read z Control x y h = h
claim_truth read z Compared x y h = refl
claim_truth read z Free x y h = z

truth_same : (way : Way) (x y : Bool) → x ≡ y → TruthClaim way x y
truth_same Even x y e = λ h. sym e ∙ h
truth_same Odd x y e = λ h. e ∙ h
truth_same Control x y e = e
truth_same Compared x y e = tt
truth_same Free x y e = tt

truth_not : (read : ℕ → ℕ) (way : Way) (x y : Denoted) → Claim read (negated way) x y → TruthClaim way (not (truth_of x)) (not (truth_of y))
truth_not read Even x y h = not_mono (truth_of x) (truth_of y) h
truth_not read Odd x y h = not_mono (truth_of y) (truth_of x) h
truth_not read Control x y h = ap not h
truth_not read Compared x y h = tt
truth_not read Free x y h = tt

truth_and : (read : ℕ → ℕ) (way : Way) (a b c d : Denoted) → Claim read way a c → Claim read way b d → TruthClaim way (truth_of a && truth_of b) (truth_of c && truth_of d)
truth_and read Even a b c d h k = and_mono (truth_of a) (truth_of b) (truth_of c) (truth_of d) h k
truth_and read Odd a b c d h k = and_mono (truth_of c) (truth_of d) (truth_of a) (truth_of b) h k
truth_and read Control a b c d h k = λ i. h i && k i
truth_and read Compared a b c d h k = tt
truth_and read Free a b c d h k = tt

truth_or : (read : ℕ → ℕ) (way : Way) (a b c d : Denoted) → Claim read way a c → Claim read way b d → TruthClaim way (truth_of a || truth_of b) (truth_of c || truth_of d)
truth_or read Even a b c d h k = or_mono (truth_of a) (truth_of b) (truth_of c) (truth_of d) h k
truth_or read Odd a b c d h k = or_mono (truth_of c) (truth_of d) (truth_of a) (truth_of b) h k
truth_or read Control a b c d h k = λ i. h i || k i
truth_or read Compared a b c d h k = tt
truth_or read Free a b c d h k = tt

truth_eq : (read : ℕ → ℕ) (way : Way) (a b c d : Denoted) → Claim read (side way) a c → Claim read (side way) b d → TruthClaim way (word_of a == word_of b) (word_of c == word_of d)
truth_eq read Even a b c d h k = λ m. eq-eqb (word_of c) (word_of d) (sym h ∙ ap read (eqb-true (word_of a) (word_of b) m) ∙ k)
truth_eq read Odd a b c d h k = λ m. (λ i. h i == k i) ∙ m
truth_eq read Control a b c d h k = λ i. h i == k i
truth_eq read Compared a b c d h k = tt
truth_eq read Free a b c d h k = tt

claim_ite_by : (read : ℕ → ℕ) (way : Way) (t : Bool) (a b c d : Denoted) → Claim read way a c → Claim read way b d → Claim read way (if t then a else b) (if t then c else d)
claim_ite_by read way true a b c d h k = h
claim_ite_by read way false a b c d h k = k

claim_ite : (read : ℕ → ℕ) (way : Way) (t u : Bool) (a b c d : Denoted) → t ≡ u → Claim read way a c → Claim read way b d → Claim read way (if t then a else b) (if u then c else d)
claim_ite read way t u a b c d e h k = subst (λ x. Claim read way (if t then a else b) (if x then c else d)) e (claim_ite_by read way t a b c d h k)

-- words
claim_word : (read : ℕ → ℕ) (way : Way) (x y : ℕ) → (way ≡ Compared → x ≡ y) → read x ≡ y → Claim read way (Word x) (Word y)
claim_word read Even x y h k = λ m. m
claim_word read Odd x y h k = λ m. m
claim_word read Control x y h k = refl
claim_word read Compared x y h k = h refl
claim_word read Free x y h k = k

-- new words read as old ones
abbrev pub read_back : World → List Node → ℕ → ℕ → ℕ
read_back old nodes bound v = if nat_le v bound then v else word old nodes (v - suc bound)

read_small : (old : World) (nodes : List Node) (bound v : ℕ) → v ≤ bound → read_back old nodes bound v ≡ v
read_small old nodes bound v h = ap (λ t. if t then v else word old nodes (v - suc bound)) (le-leb v bound h)

read_own : (old : World) (nodes : List Node) (bound from : ℕ) → read_back old nodes bound (own bound from) ≡ word old nodes from
read_own old nodes bound from =
    let past : bound < own bound from = omega arith in
    let place : own bound from - suc bound ≡ from = omega arith in
    ap (λ t. if t then own bound from else word old nodes (own bound from - suc bound)) (lt-leb (own bound from) bound past) ∙ ap (word old nodes) place

read_words : (read : ℕ → ℕ) (old new : World) (nodes : List Node) (args : List ℕ) → ((c : ℕ) → Contains args c → read (word new nodes c) ≡ word old nodes c) → map read (words new nodes args) ≡ words old nodes args
read_words read old new nodes [] h = refl
read_words read old new nodes (a ∷ args) h =
    let head = h a (first a args) in
    let tail = read_words read old new nodes args (λ c p. h c (Contains-append_right (a ∷ []) args c p)) in
    λ i. head i ∷ tail i

app_terms : Node → List ℕ
app_terms (App s args) = args
app_terms node = []

app_symbol : Node → Sym → Sym
app_symbol (App s args) d = s
app_symbol node d = d

same_terms : (s t : Sym) (xs ys : List ℕ) → App s xs ≡ App t ys → xs ≡ ys
unfolding app_terms
same_terms s t xs ys e = ap app_terms e

same_symbol : (s t : Sym) (xs ys : List ℕ) → App s xs ≡ App t ys → s ≡ t
unfolding app_symbol
same_symbol s t xs ys e = ap (λ n. app_symbol n s) e

-- what a walk's way claims of the term at a place
abbrev pub ClaimAt : World → World → List Node → ℕ → Way → ℕ → Type 0
ClaimAt old new nodes bound way i = Claim (read_back old nodes bound) way (denoted new nodes i) (denoted old nodes i)

module _ (old new : World) (nodes : List Node) (g : IsGraph nodes) (root bound : ℕ) (inside : root < length nodes) (none : ReachesNoMemory nodes root) (s : IsSpread old new nodes root bound) where
  zero_read : read_back old nodes bound 0 ≡ 0
  zero_read = read_small old nodes bound 0 (omega arith)

  new_word : (i : ℕ) (k : Sym) (args : List ℕ) → slice_get nodes i ≡ Some (App k args) → word new nodes i ≡ applied new k (words new nodes args)
  new_word i k args at = ap word_of (denoted-get new nodes g i (App k args) at)

  old_word : (i : ℕ) (k : Sym) (args : List ℕ) → slice_get nodes i ≡ Some (App k args) → word old nodes i ≡ applied old k (words old nodes args)
  old_word i k args at = ap word_of (denoted-get old nodes g i (App k args) at)

  -- the words of terms to which walks come, read back
  read_args : (i n : ℕ) (node : Node) (args : List ℕ) → i ≤ n → Reaches nodes root i → slice_get nodes i ≡ Some node → ((way : Way) → steps way node ≡ map (λ (c : ℕ). (Free, c)) args)
      → ((c : ℕ) → c < n → (way : Way) → Walks nodes root way c → ClaimAt old new nodes bound way c)
      → map (read_back old nodes bound) (words new nodes args) ≡ words old nodes args
  read_args i n node args early r at is ih =
      let w = reached-walked nodes root i r in
      read_words (read_back old nodes bound) old new nodes args
      (λ c p.
      let q : Contains (steps w.way node) (Free, c) = subst (λ (l : List (Way × ℕ)). Contains l (Free, c)) (sym (is w.way)) (Contains-map (λ (c : ℕ). (Free, c)) args c p) in
      let below = children-below nodes g i node at c (step_child node w.way (Free, c) q) in
      ih c (omega (arith, below, early)) Free (Step w.way i node Free c w.walks at q))

  -- the first equal application had the same old words
  same_words : (i j n : ℕ) (x y : Node) (xs ys : List ℕ) → i ≤ n → j ≤ n → Reaches nodes root i → Reaches nodes root j → slice_get nodes i ≡ Some x → slice_get nodes j ≡ Some y
      → ((way : Way) → steps way x ≡ map (λ (c : ℕ). (Free, c)) xs) → ((way : Way) → steps way y ≡ map (λ (c : ℕ). (Free, c)) ys)
      → words new nodes xs ≡ words new nodes ys
      → ((c : ℕ) → c < n → (way : Way) → Walks nodes root way c → ClaimAt old new nodes bound way c) → words old nodes xs ≡ words old nodes ys
  same_words i j n x y xs ys li lj ri rj ati atj isx isy same ih =
      sym (read_args i n x xs li ri ati isx ih) ∙ ap (map (read_back old nodes bound)) same ∙ read_args j n y ys lj rj atj isy ih

  claim_app : (i : ℕ) (way : Way) (k : Sym) (args : List ℕ) → slice_get nodes i ≡ Some (App k args) → Walks nodes root way i
      → ((c : ℕ) → c < i → (way : Way) → Walks nodes root way c → ClaimAt old new nodes bound way c)
      → Claim (read_back old nodes bound) way (Word (applied new k (words new nodes args))) (Word (applied old k (words old nodes args)))
  claim_app i way k args at w ih =
      let r = Walks-reaches nodes root way i w in
      let f = s.applications i k args r at in
      let x = applied new k (words new nodes args) in
      let y = applied old k (words old nodes args) in
      let first_old : word old nodes f.from ≡ y =
      old_word f.from k f.terms f.there ∙ ap (applied old k) (same_words f.from i i (App k f.terms) (App k args) f.terms args f.early (omega arith) f.reached r f.there at (λ way. refl) (λ way. refl) f.same ih) in
      elim f.value [
        | inl p ↦
            let e : x ≡ own bound f.from = sym (new_word i k args at) ∙ p.1 in
            claim_word (read_back old nodes bound) way x y
            (λ c. absurd (p.0.never (record { id = i; args = args; walks = subst (λ v. Walks nodes root v i) c w; there = at })))
            (ap (read_back old nodes bound) e ∙ read_own old nodes bound f.from ∙ first_old)
        | inr p ↦
            let e : x ≡ y = sym (new_word i k args at) ∙ p.1 ∙ first_old in
            let small : y ≤ bound = subst (λ v. v ≤ bound) (old_word i k args at) (s.small i r) in
            claim_word (read_back old nodes bound) way x y (λ c. e) (ap (read_back old nodes bound) e ∙ read_small old nodes bound y small)
      ]

  claim_pred : (i : ℕ) (way : Way) (k : Sym) (args : List ℕ) → slice_get nodes i ≡ Some (Pred k args) → Walks nodes root way i
      → ((c : ℕ) → c < i → (way : Way) → Walks nodes root way c → ClaimAt old new nodes bound way c)
      → Claim (read_back old nodes bound) way (Truth (holds new k (words new nodes args))) (Truth (holds old k (words old nodes args)))
  claim_pred i way k args at w ih =
      let r = Walks-reaches nodes root way i w in
      let f = s.predicates i k args r at in
      let x = holds new k (words new nodes args) in
      let y = holds old k (words old nodes args) in
      let first_old : truth old nodes f.from ≡ y =
      ap truth_of (denoted-get old nodes g f.from (Pred k f.terms) f.there)
      ∙ ap (holds old k) (same_words f.from i i (Pred k f.terms) (Pred k args) f.terms args f.early (omega arith) f.reached r f.there at (λ way. refl) (λ way. refl) f.same ih) in
      let e : x ≡ y = sym (ap truth_of (denoted-get new nodes g i (Pred k args) at)) ∙ f.value ∙ first_old in
      claim_truth (read_back old nodes bound) zero_read way x y (truth_same way x y e)

  claim_node : (i : ℕ) (way : Way) (node : Node) → slice_get nodes i ≡ Some node → Walks nodes root way i
      → ((c : ℕ) → c < i → (way : Way) → Walks nodes root way c → ClaimAt old new nodes bound way c)
      → ((next : Way) (c : ℕ) → Contains (steps way node) (next, c) → ClaimAt old new nodes bound next c)
      → Claim (read_back old nodes bound) way (node_value new (values new nodes) node) (node_value old (values old nodes) node)
  claim_node i way True at w ih on = claim_truth (read_back old nodes bound) zero_read way true true (truth_same way true true refl)
  claim_node i way (Not a) at w ih on =
      claim_truth (read_back old nodes bound) zero_read way _ _
      (truth_not (read_back old nodes bound) way (denoted new nodes a) (denoted old nodes a) (on (negated way) a (first (negated way, a) [])))
  claim_node i way (And a b) at w ih on =
      claim_truth (read_back old nodes bound) zero_read way _ _
      (truth_and (read_back old nodes bound) way (denoted new nodes a) (denoted new nodes b) (denoted old nodes a) (denoted old nodes b)
      (on way a (first (way, a) ((way, b) ∷ []))) (on way b (second (way, a) (way, b) [])))
  claim_node i way (Or a b) at w ih on =
      claim_truth (read_back old nodes bound) zero_read way _ _
      (truth_or (read_back old nodes bound) way (denoted new nodes a) (denoted new nodes b) (denoted old nodes a) (denoted old nodes b)
      (on way a (first (way, a) ((way, b) ∷ []))) (on way b (second (way, a) (way, b) [])))
  claim_node i way (Ite c a b) at w ih on =
      claim_ite (read_back old nodes bound) way (truth_of (denoted new nodes c)) (truth_of (denoted old nodes c)) (denoted new nodes a) (denoted new nodes b) (denoted old nodes a) (denoted old nodes b)
      (on Control c (first (Control, c) ((way, a) ∷ (way, b) ∷ [])))
      (on way a (second (Control, c) (way, a) ((way, b) ∷ []))) (on way b (third (Control, c) (way, a) (way, b) []))
  claim_node i way (Eq a b) at w ih on =
      claim_truth (read_back old nodes bound) zero_read way _ _
      (truth_eq (read_back old nodes bound) way (denoted new nodes a) (denoted new nodes b) (denoted old nodes a) (denoted old nodes b)
      (on (side way) a (first (side way, a) ((side way, b) ∷ []))) (on (side way) b (second (side way, a) (side way, b) [])))
  claim_node i way (App k args) at w ih on = claim_app i way k args at w ih
  claim_node i way (Pred k args) at w ih on = claim_pred i way k args at w ih
  claim_node i way (Read m a) at w ih on = absurd (plain_reached nodes g root none i (Read m a) (Walks-reaches nodes root way i w) at)
  claim_node i way (Write m a d) at w ih on = absurd (plain_reached nodes g root none i (Write m a d) (Walks-reaches nodes root way i w) at)
  claim_node i way (Init e) at w ih on = absurd (plain_reached nodes g root none i (Init e) (Walks-reaches nodes root way i w) at)

  claims-below : (n i : ℕ) → i < n → (way : Way) → Walks nodes root way i → ClaimAt old new nodes bound way i
  claims-below zero i lt way w = absurd (omega arith)
  claims-below (suc n) i lt way w =
      let below = Reaches-below nodes g root i (Walks-reaches nodes root way i w) in
      let node = slice_index_or nodes i True in
      let at : slice_get nodes i ≡ Some node = slice_get-get_or nodes i True (omega (arith, below, inside)) in
      let ih : (c : ℕ) → c < i → (way : Way) → Walks nodes root way c → ClaimAt old new nodes bound way c = λ c h v x. claims-below n c (omega (arith, h, lt)) v x in
      let claim = claim_node i way node at w ih (λ next c p. ih c (children-below nodes g i node at c (step_child node way (next, c) p)) next (Step way i node next c w at p)) in
      subst (λ (x : Denoted). Claim (read_back old nodes bound) way x (denoted old nodes i)) (sym (denoted-get new nodes g i node at))
      (subst (λ (y : Denoted). Claim (read_back old nodes bound) way (node_value new (values new nodes) node) y) (sym (denoted-get old nodes g i node at)) claim)

  -- a root that is false in the old world is false in the new one
  pub spread-false : (¬ IsTrue (truth old nodes root)) → ¬ IsTrue (truth new nodes root)
  spread-false h k = h (claims-below (suc root) root (omega arith) Even Root k)

  -- which is diverse
  pub spread-diverse : IsDiverse new nodes root
  spread-diverse = record {
    apart = λ k m xs ys p q positive e.
        let f = s.applications p.id k xs p.reached p.there in
        let h = s.applications q.id m ys q.reached q.there in
        let equal : word new nodes p.id ≡ word new nodes q.id = new_word p.id k xs p.there ∙ e ∙ sym (new_word q.id m ys q.there) in
        elim f.value [
          | inl x ↦ elim h.value [
            | inl y ↦
                let place : f.from ≡ h.from = let z : own bound f.from ≡ own bound h.from = sym x.1 ∙ equal ∙ y.1 in omega (arith, z) in
                let node : App k f.terms ≡ App m h.terms = same_Some (App k f.terms) (App m h.terms) (sym f.there ∙ ap (slice_get nodes) place ∙ h.there) in
                (same_symbol k m f.terms h.terms node, sym f.same ∙ ap (words new nodes) (same_terms k m f.terms h.terms node) ∙ h.same)
            | inr y ↦
                let z : own bound f.from ≡ word old nodes h.from = sym x.1 ∙ equal ∙ y.1 in
                absurd (omega (arith, z, s.small h.from h.reached))
          ]
          | inr x ↦ absurd (x.0 positive)
        ];
  }

  -- and keeps functions of no arguments apart
  pub spread-apart : (a b : ℕ) → applied old (Function a) [] ≤ bound → applied old (Function b) [] ≤ bound
      → applied old (Function a) [] ≢ applied old (Function b) [] → applied new (Function a) [] ≢ applied new (Function b) []
  spread-apart a b la lb differ e =
      elim (s.constants (Function a)) [
        | inl x ↦ elim (s.constants (Function b)) [
          | inl y ↦ differ (sym x ∙ e ∙ y)
          | inr y ↦ let z : applied old (Function a) [] ≡ own bound y.from = sym x ∙ e ∙ y.value in omega (arith, z, la)
        ]
        | inr x ↦ elim (s.constants (Function b)) [
          | inl y ↦ let z : own bound x.from ≡ applied old (Function b) [] = sym x.value ∙ e ∙ y in omega (arith, z, lb)
          | inr y ↦
              let z : own bound x.from ≡ own bound y.from = sym x.value ∙ e ∙ y.value in
              let place : x.from ≡ y.from = omega (arith, z) in
              let node : App (Function a) [] ≡ App (Function b) [] = same_Some (App (Function a) []) (App (Function b) []) (sym x.there ∙ ap (slice_get nodes) place ∙ y.there) in
              differ (ap (λ k. applied old k []) (same_symbol (Function a) (Function b) [] [] node))
        ]
      ]
