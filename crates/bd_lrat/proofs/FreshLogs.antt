-- A fresh log adds fewer clauses than there are digits for: each has a number of its own, by base 3, below 3 ^ vars.
use Rattle.std.proofs.Common.{◌≡◌, ◌≢◌, ℕ, zero, suc, ◌+◌, ◌*◌, ◌^◌, ◌<◌, ◌≤◌, Bool, true, false, not, cond, ◌||◌, eqb, List, [], ◌∷◌, length, map, refl, sym, ap, ◌∙◌, subst, inl, inr, arith}
use Rattle.std.specs.List.{All, AllByRecursion, IsDistinct, list_any, list_all}
use Rattle.std.proofs.Math.Nat.{pow-suc}
use Rattle.std.proofs.lemmas.List.{length-map}
use Rattle.std.proofs.lemmas.Bool.{false≢true, true≢false, cases_Bool, cases_lt, or_cases, and_from, eqb-true, ne_eqb}
use Rattle.std.proofs.lemmas.List.Elements.{All-nil, All-cons, All-head, All-tail}
use Rattle.std.proofs.lemmas.Map.Keys.{IsDistinct-cons}
use Rattle.std.proofs.lemmas.Map.Steps.{length-le_from_distinct_below}
use Rattle.bd_cnf.specs.Literal.{Literal, literal, negate, has_literal, literal_eq}
use Rattle.bd_cnf.specs.Clause.{IsRising, IsWithin}
use Rattle.bd_cnf.specs.Problem.{Problem}
use Rattle.bd_cnf.proofs.Literals.{literal_eq-refl, has_within}
use Rattle.bd_cnf.proofs.Rising.{above_floor, rising_not_tautology}
use Rattle.bd_lrat.specs.declared.line.Line.{Line}
use Rattle.bd_lrat.specs.declared.line.Line.TheVariants.{Add, Delete}
use Rattle.bd_lrat.specs.Database.{Database, database_of, after}
use Rattle.bd_lrat.specs.Log.{IsAcceptedLog, AddsFresh, AddsRising, IsFresh, includes, additions}
use Rattle.bd_lrat.proofs.Ends.{additions-append}

-- 1 where a clause has a variable, 2 where it has its negation, 0 where it has neither
abbrev digit_of : Bool → Bool → ℕ
digit_of a b = cond a 1 (cond b 2 0)

abbrev digit : List Literal → ℕ → ℕ
digit c var = digit_of (has_literal c (literal var true)) (has_literal c (literal var false))

-- the digits of the variables up to n
abbrev number : List Literal → ℕ → ℕ
number c zero = 0
number c (suc n) = digit c (suc n) + 3 * number c n

digit_small : (c : List Literal) (var : ℕ) → digit c var ≤ 2
digit_small c var = go (has_literal c (literal var true)) (has_literal c (literal var false))
  where
    go : (a b : Bool) → digit_of a b ≤ 2
    go true b = omega arith
    go false true = omega arith
    go false false = omega arith

number_small : (c : List Literal) (n : ℕ) → number c n < 3 ^ n
number_small c zero = omega arith
number_small c (suc n) = omega (arith, digit_small c (suc n), number_small c n, pow-suc 3 n)

-- equal numbers have equal digits
digits_same : (c d : List Literal) (n : ℕ) → number c n ≡ number d n → (var : ℕ) → 0 < var → var ≤ n → digit c var ≡ digit d var
digits_same c d zero e var from to = absurd (omega arith)
digits_same c d (suc n) e var from to =
    let first : digit c (suc n) ≤ 2 = digit_small c (suc n) in
    let second : digit d (suc n) ≤ 2 = digit_small d (suc n) in
    let here : digit c (suc n) ≡ digit d (suc n) = omega (arith, e) in
    let rest : number c n ≡ number d n = omega (arith, e) in
    elim (cases_lt var (suc n)) [
      | inl low ↦ digits_same c d n rest var from (omega arith)
      | inr high ↦ let same : suc n ≡ var = omega arith in subst (λ v. digit c v ≡ digit d v) same here
    ]

-- a digit says which literal of the variable there is
has_from_digit : (c d : List Literal) (var : ℕ) (sign : Bool) → digit c var ≡ digit d var → has_literal d (literal var sign) ≡ true → has_literal d (literal var (not sign)) ≡ false → has_literal c (literal var sign) ≡ true
has_from_digit c d var true e here other = go (has_literal c (literal var true)) (has_literal c (literal var false)) (e ∙ says)
  where
    says : digit d var ≡ 1
    says = ap (λ a. digit_of a (has_literal d (literal var false))) here

    go : (a b : Bool) → digit_of a b ≡ 1 → a ≡ true
    go true b f = refl
    go false true f = absurd (omega arith)
    go false false f = absurd (omega arith)
has_from_digit c d var false e here other = go (has_literal c (literal var true)) (has_literal c (literal var false)) (e ∙ says)
  where
    says : digit d var ≡ 2
    says = λ i. digit_of (other i) (here i)

    go : (a b : Bool) → digit_of a b ≡ 2 → b ≡ true
    go true b f = absurd (omega arith)
    go false true f = refl
    go false false f = absurd (omega arith)

all_from_has : (c ls : List Literal) → ((l : Literal) → has_literal ls l ≡ true → has_literal c l ≡ true) → list_all (has_literal c) ls ≡ true
all_from_has c [] all = refl
all_from_has c (l ∷ ls) all = and_from _ _ (all l (first (literal_eq l l) _ (literal_eq-refl l))) (all_from_has c ls (λ m h. all m (later (literal_eq m l) _ h)))
  where
    first : (a b : Bool) → a ≡ true → (a || b) ≡ true
    first a b h = ap (λ x. x || b) h

    later : (a b : Bool) → b ≡ true → (a || b) ≡ true
    later true b h = refl
    later false b h = h

-- a clause includes a rising one of the same number
includes_same : (vars : ℕ) (c d : List Literal) → IsRising d → IsWithin vars d → number c vars ≡ number d vars → includes c d ≡ true
includes_same vars c d rising within e = all_from_has c d has
  where
    has : (l : Literal) → has_literal d l ≡ true → has_literal c l ≡ true
    has l here =
        let other : has_literal d (negate l) ≡ false = elim (cases_Bool (has_literal d (negate l))) [ inl f ↦ absurd (rising_not_tautology 0 d rising (l, here, f)) | inr f ↦ f ] in
        has_from_digit c d l.var l.positive (digits_same c d vars e l.var (above_floor 0 d l rising here) (has_within vars d l within here)) here other

-- the number of a clause of one literal or more isn't that of the empty clause
number_filled : (vars : ℕ) (l : Literal) (ls : List Literal) → IsRising (l ∷ ls) → IsWithin vars (l ∷ ls) → number (l ∷ ls) vars ≢ 0
number_filled vars l ls rising within e = false≢true (includes_same vars [] (l ∷ ls) rising within (none vars ∙ sym e))
  where
    none : (n : ℕ) → number [] n ≡ 0
    none zero = refl
    none (suc n) = omega (arith, none n)

-- a clause that was counted
abbrev IsCounted : ℕ → List Literal → Type 0
IsCounted vars c = IsRising c × IsWithin vars c × (number c vars ≢ 0)

zero_apart : (vars : ℕ) (cs : List (List Literal)) → All (IsCounted vars) cs → AllByRecursion (λ n. eqb 0 n ≡ false) (map (λ c. number c vars) cs)
zero_apart vars [] all = tt
zero_apart vars (c ∷ cs) all = (ne_eqb 0 (number c vars) (λ e. (All-head (IsCounted vars) c cs all).2 (sym e)), zero_apart vars cs (All-tail (IsCounted vars) c cs all))

-- a clause that includes none of those counted has another number
apart : (vars : ℕ) (clause : List Literal) (cs : List (List Literal)) → All (IsCounted vars) cs → All (λ other. includes clause other ≡ false) cs → AllByRecursion (λ n. eqb (number clause vars) n ≡ false) (map (λ c. number c vars) cs)
apart vars clause [] all none = tt
apart vars clause (c ∷ cs) all none =
    let here = All-head (IsCounted vars) c cs all in
    let out : includes clause c ≡ false = All-head (λ other. includes clause other ≡ false) c cs none in (
      ne_eqb (number clause vars) (number c vars) (λ e. true≢false (sym (includes_same vars clause c here.0 here.1 e) ∙ out)),
      apart vars clause cs (All-tail (IsCounted vars) c cs all) (All-tail (λ other. includes clause other ≡ false) c cs none),
    )

below : (vars : ℕ) (cs : List (List Literal)) (q : ℕ) → list_any (eqb q) (map (λ c. number c vars) cs) ≡ true → q < 3 ^ vars
below vars [] q h = absurd (false≢true h)
below vars (c ∷ cs) q h =
    elim (or_cases _ _ h) [
      | inl e ↦ let same : q ≡ number c vars = eqb-true q (number c vars) e in omega (arith, number_small c vars)
      | inr e ↦ below vars cs q e
    ]

-- those that were counted are fewer than 3 ^ vars
counted_few : (vars : ℕ) (cs : List (List Literal)) → All (IsCounted vars) cs → IsDistinct eqb (map (λ c. number c vars) cs) → length cs < 3 ^ vars
counted_few vars cs all distinct =
    let ns = map (λ c. number c vars) cs in
    let bound : length (0 ∷ ns) ≤ 3 ^ vars = length-le_from_distinct_below (0 ∷ ns) (3 ^ vars) (IsDistinct-cons eqb 0 ns (zero_apart vars cs all) distinct) within in
    omega (arith, simp length-map at bound)
  where
    within : (q : ℕ) → list_any (eqb q) (0 ∷ map (λ c. number c vars) cs) ≡ true → q < 3 ^ vars
    within q h =
        elim (or_cases _ _ h) [
          | inl e ↦ let same : q ≡ 0 = eqb-true q 0 e in omega (arith, number_small [] vars)
          | inr e ↦ below vars cs q e
        ]

-- what includes none of the earlier clauses includes none of those counted
abbrev AreEarlier : List (List Literal) → List (List Literal) → Type 0
AreEarlier cs earlier = (clause : List Literal) → All (λ other. includes clause other ≡ false) earlier → All (λ other. includes clause other ≡ false) cs

few : (lines : List Line) (db : Database) (earlier cs : List (List Literal)) → IsAcceptedLog db lines → AddsRising lines → AddsFresh db earlier lines → All (IsCounted db.vars) cs → IsDistinct eqb (map (λ c. number c db.vars) cs) → AreEarlier cs earlier → additions lines + length cs < 3 ^ db.vars
few [] db earlier cs accepted rising fresh all distinct inside = omega (arith, counted_few db.vars cs all distinct)
few ((Delete id ids) ∷ lines) db earlier cs accepted rising fresh all distinct inside =
    omega (arith, few lines (after db (Delete id ids)) earlier cs accepted.1 rising fresh all distinct inside)
few ((Add id [] hints) ∷ lines) db earlier cs accepted rising fresh all distinct inside =
    omega (arith, few lines (after db (Add id [] hints)) ([] ∷ earlier) cs accepted.1 rising.1 fresh.1 all distinct (λ clause none. inside clause (All-tail (λ other. includes clause other ≡ false) [] earlier none)))
few ((Add id (l ∷ ls) hints) ∷ lines) db earlier cs accepted rising fresh all distinct inside =
    let new = l ∷ ls in
    let none : All (λ other. includes new other ≡ false) cs = inside new (fresh.0 filled).includes_none in
    let more : All (IsCounted db.vars) (new ∷ cs) = All-cons (IsCounted db.vars) new cs (rising.0, accepted.0.1, number_filled db.vars l ls rising.0 accepted.0.1) all in
    let different : IsDistinct eqb (map (λ c. number c db.vars) (new ∷ cs)) = IsDistinct-cons eqb (number new db.vars) (map (λ c. number c db.vars) cs) (apart db.vars new cs all none) distinct in
    let rest = few lines (after db (Add id new hints)) (new ∷ earlier) (new ∷ cs) accepted.1 rising.1 fresh.1 more different (λ clause out. All-cons (λ other. includes clause other ≡ false) new cs (All-head (λ other. includes clause other ≡ false) new earlier out) (inside clause (All-tail (λ other. includes clause other ≡ false) new earlier out))) in
    let one : additions (Add id new hints ∷ lines) ≡ 1 + additions lines = additions-append (Add id new hints ∷ []) lines in
    omega (arith, rest)
  where
    is_empty : List Literal → Bool
    is_empty [] = true
    is_empty (m ∷ ms) = false

    filled : (l ∷ ls) ≢ []
    filled e = true≢false (sym (ap is_empty e))

none_distinct : IsDistinct eqb []
unfolding IsDistinct
none_distinct = tt

pub fresh_is_short : (p : Problem) (lines : List Line) → IsAcceptedLog (database_of p) lines → AddsRising lines → IsFresh p lines → additions lines < 3 ^ p.vars
fresh_is_short p lines accepted rising fresh = omega (arith, few lines (database_of p) p.clauses [] accepted rising fresh (All-nil (IsCounted p.vars)) none_distinct (λ clause none. All-nil (λ other. includes clause other ≡ false)))
