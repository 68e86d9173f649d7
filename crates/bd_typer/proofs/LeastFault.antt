-- The first of several faults: the least of their offsets, and there the least of their codes.
use Rattle.std.proofs.Common.{◌≡◌, ℕ, Bool, true, false, cond, List, [], ◌∷◌, ◌++◌, map, min, Option, Some, None, refl, ap, sym, ◌∙◌, arith}
use Rattle.std.proofs.lemmas.List.{append-nil}
use Rattle.std.proofs.lemmas.Bool.Decides.{nat_tests}
use Rattle.std.specs.Prelude.{◌||◌, ◌&&◌, ◌==◌, nat_lt, nat_le}
use Rattle.bd_text.specs.declared.code.Code.{Code}
use Rattle.bd_syntax.specs.Reading.{Fault}
use Rattle.bd_typer.specs.Faults.{fault, faults_at, code_number, is_before, first_of, least}
use Rattle.bd_typer.specs.inner.Located.{first_offset, least_offset, at_tree, fault_at}

pub first_offset-assoc : (a b c : Option ℕ) → first_offset a (first_offset b c) ≡ first_offset (first_offset a b) c
first_offset-assoc None b c = refl
first_offset-assoc (Some a) None c = refl
first_offset-assoc (Some a) (Some b) None = refl
first_offset-assoc (Some a) (Some b) (Some c) = let e : min a (min b c) ≡ min (min a b) c = omega arith in ap Some e

pub least_offset-append : (xs ys : List ℕ) → least_offset (xs ++ ys) ≡ first_offset (least_offset xs) (least_offset ys)
least_offset-append [] ys = refl
least_offset-append (x ∷ xs) ys = ap (first_offset (Some x)) (least_offset-append xs ys) ∙ first_offset-assoc (Some x) (least_offset xs) (least_offset ys)

-- the order by two numbers
before : ℕ → ℕ → ℕ → ℕ → Bool
before x m y n = nat_lt x y || ((x == y) && nat_le m n)

before-trans : (x m y n z k : ℕ) → before x m y n ≡ true → before y n z k ≡ true → before x m z k ≡ true
unfolding before
before-trans x m y n z k h g = grind (arith, nat_tests)

after-trans : (x m y n z k : ℕ) → before x m y n ≡ false → before y n z k ≡ false → before x m z k ≡ false
unfolding before
after-trans x m y n z k h g = grind (arith, nat_tests)

before-same : (x y n : ℕ) → before x n y n ≡ nat_le x y
unfolding before
before-same x y n = grind (arith, nat_tests)

first_of-three : (a b c : Fault) (p q r : Bool) → is_before a b ≡ p → is_before b c ≡ q → is_before a c ≡ r → (p ≡ true → q ≡ true → r ≡ true) → (p ≡ false → q ≡ false → r ≡ false)
    → first_of (Some a) (first_of (Some b) (Some c)) ≡ first_of (first_of (Some a) (Some b)) (Some c)
first_of-three a b c true true true p q r t f = rw (q, p, r) refl
first_of-three a b c true true false p q r t f = absurd (cc (t refl refl))
first_of-three a b c true false r p q e t f = rw (q, p) refl
first_of-three a b c false true r p q e t f = rw (q, p, q) refl
first_of-three a b c false false true p q r t f = absurd (cc (f refl refl))
first_of-three a b c false false false p q r t f = rw (q, p, r, q) refl

pub first_of-assoc : (a b c : Option Fault) → first_of a (first_of b c) ≡ first_of (first_of a b) c
unfolding before
first_of-assoc None b c = refl
first_of-assoc (Some a) None c = refl
first_of-assoc (Some a) (Some b) None = none (is_before a b) where
  none : (p : Bool) → cond p (Some a) (Some b) ≡ first_of (cond p (Some a) (Some b)) None
  none true = refl
  none false = refl
first_of-assoc (Some a) (Some b) (Some c) =
    first_of-three a b c _ _ _ refl refl refl
    (before-trans a.offset (code_number a.code) b.offset (code_number b.code) c.offset (code_number c.code))
    (after-trans a.offset (code_number a.code) b.offset (code_number b.code) c.offset (code_number c.code))

pub least-append : (xs ys : List Fault) → least (xs ++ ys) ≡ first_of (least xs) (least ys)
least-append [] ys = refl
least-append (x ∷ xs) ys = ap (first_of (Some x)) (least-append xs ys) ∙ first_of-assoc (Some x) (least xs) (least ys)

-- of one code the least offset counts
first_of-one_code : (code : Code) (a : ℕ) (b : Option ℕ) → first_of (Some (fault code a)) (fault_at code b) ≡ fault_at code (first_offset (Some a) b)
unfolding before
first_of-one_code code a None = refl
first_of-one_code code a (Some b) = ap (λ p. cond p (Some (fault code a)) (Some (fault code b))) (before-same a b (code_number code)) ∙ lesser (nat_le a b) refl where
  lesser : (p : Bool) → nat_le a b ≡ p → cond p (Some (fault code a)) (Some (fault code b)) ≡ Some (fault code (min a b))
  lesser true h = let e : min a b ≡ a = grind (arith, nat_tests) in rw e
  lesser false h = let e : min a b ≡ b = grind (arith, nat_tests) in rw e

pub least-faults_at : (code : Code) (offsets : List ℕ) → least (faults_at code offsets) ≡ fault_at code (least_offset offsets)
least-faults_at code [] = refl
least-faults_at code (a ∷ offsets) = ap (first_of (Some (fault code a))) (least-faults_at code offsets) ∙ first_of-one_code code a (least_offset offsets)

-- of faults of one code in two places the least offset counts
pub first_of-fault_at : (code : Code) (a b : Option ℕ) → first_of (fault_at code a) (fault_at code b) ≡ fault_at code (first_offset a b)
first_of-fault_at code None b = refl
first_of-fault_at code (Some a) b = first_of-one_code code a b

-- of faults of two codes
pub least-two_codes : (c d : Code) (xs ys : List ℕ) → least (faults_at c xs ++ faults_at d ys) ≡ first_of (fault_at c (least_offset xs)) (fault_at d (least_offset ys))
least-two_codes c d xs ys = rw (least-append (faults_at c xs) (faults_at d ys), least-faults_at c xs, least-faults_at d ys) refl

-- of faults of one code in two places
pub least-one_code : (c : Code) (xs ys : List ℕ) → least (faults_at c xs ++ faults_at c ys) ≡ fault_at c (first_offset (least_offset xs) (least_offset ys))
least-one_code c xs ys = least-two_codes c c xs ys ∙ first_of-fault_at c (least_offset xs) (least_offset ys)

-- of faults of one code, and of two more kinds
pub least-three : (c d : Code) (xs ys zs : List ℕ) (others : List Fault) → least (faults_at c xs ++ ((faults_at d ys ++ faults_at d zs) ++ others))
    ≡ first_of (fault_at c (least_offset xs)) (first_of (fault_at d (first_offset (least_offset ys) (least_offset zs))) (least others))
least-three c d xs ys zs others =
    rw (least-append (faults_at c xs) ((faults_at d ys ++ faults_at d zs) ++ others), least-faults_at c xs, least-append (faults_at d ys ++ faults_at d zs) others, least-one_code d ys zs) refl

-- of faults of one code alone
pub least-alone : (c : Code) (xs : List ℕ) → least (faults_at c xs) ≡ first_of (fault_at c (least_offset xs)) None
least-alone c xs = least-faults_at c xs ∙ alone (least_offset xs) where
  alone : (o : Option ℕ) → fault_at c o ≡ first_of (fault_at c o) None
  alone None = refl
  alone (Some a) = refl

-- of faults of one code, and of another in two places
pub least-others : (c d : Code) (xs ys zs : List ℕ) → least (faults_at c xs ++ (faults_at d ys ++ faults_at d zs))
    ≡ first_of (fault_at c (least_offset xs)) (first_of (fault_at d (first_offset (least_offset ys) (least_offset zs))) None)
least-others c d xs ys zs = ap (λ others. least (faults_at c xs ++ others)) (sym (append-nil (faults_at d ys ++ faults_at d zs))) ∙ least-three c d xs ys zs []

-- faults that are all seen at the offset of the file's tree
pub least-at_tree : {X : Type 0} (tree : ℕ) (f : X → ℕ) (xs : List X) → at_tree tree (least_offset (map f xs)) ≡ least_offset (map (λ (x : X). tree) xs)
least-at_tree tree f [] = refl
least-at_tree tree f (x ∷ xs) = by_rest (least_offset (map f xs)) (least_offset (map (λ x. tree) xs)) (least-at_tree tree f xs) where
  by_rest : (o p : Option ℕ) → at_tree tree o ≡ p → at_tree tree (first_offset (Some (f x)) o) ≡ first_offset (Some tree) p
  by_rest None p e = ap (first_offset (Some tree)) e
  by_rest (Some y) p e = let same : tree ≡ min tree tree = omega arith in ap Some same ∙ ap (first_offset (Some tree)) e
