-- Things counted one by one are those that pass.
use Rattle.std.proofs.Common.{◌≡◌, ◌<◌, ◌≤◌, ◌+◌, ◌∙◌, ℕ, suc, Bool, true, false, cond, List, [], ◌∷◌, replicate, refl, sym, ap, subst, arith, eq-eqb}
use Rattle.std.specs.Prelude.{◌||◌, ◌==◌, All, count_by, if◌then◌else◌}
use Rattle.std.proofs.lemmas.Bool.{eqb-true}
use Rattle.std.proofs.lemmas.List.Elements.{All-replicate, All-weaker}
use Rattle.std.proofs.lemmas.List.Sums.{sum_by-cons}
use Rattle.bd_about.specs.declared.tallying.Tally.{Tally}
use Rattle.bd_about.specs.inner.Tallied.{IsUpTo, named, no_tally, tallied}

-- a tally of nothing is one of things up to any
pub none-up_to : (thing n : ℕ) (ts : List Tally) → ts ≡ replicate n no_tally → All (IsUpTo thing) ts
none-up_to thing n ts is = subst (All (IsUpTo thing)) (sym is) (All-replicate (IsUpTo thing) n no_tally (record { count = omega arith; last = omega arith }))

-- tallies of things up to one are tallies of things up to a later one
pub up_to-later : (m n : ℕ) (ts : List Tally) → m ≤ n → All (IsUpTo m) ts → All (IsUpTo n) ts
up_to-later m n ts later h = All-weaker (IsUpTo m) (IsUpTo n) (λ t r. record { count = r.count; last = omega (arith, r.last, later) }) ts h

-- named twice in one thing is named once
pub named-both : (a b : Bool) (thing : ℕ) (t : Tally) → named b thing (named a thing t) ≡ named (a || b) thing t
named-both false b thing t = refl
named-both true false thing t = refl
named-both true true thing t = by (t.last == thing) refl
  where
    more : Tally
    more = record { count = t.count + 1; last = thing }

    by : (c : Bool) → (t.last == thing) ≡ c → named true thing (if c then t else more) ≡ (if c then t else more)
    by true is = ap (λ c. if c then t else more) is
    by false off = ap (λ c. if c then more else record { count = more.count + 1; last = thing }) (eq-eqb thing thing refl)

-- a thing more is tallied, and the rest is numbered from the next one on
pub tallied-next : {X : Type 0} (names : X → Bool) (thing next : ℕ) (t u : Tally) (xs : List X) (x : X) (rest : List X) → next ≡ suc thing → u ≡ named (names x) thing t → xs ≡ x ∷ rest
    → tallied names next u rest ≡ tallied names thing t xs
tallied-next names thing next t u xs x rest e is parts = ap (λ n. tallied names n u rest) e ∙ ap (λ v. tallied names (suc thing) v rest) is ∙ ap (tallied names thing t) (sym parts)

-- a tally of things before a number, one of things up to it
record IsAfter (b : Bool) (thing : ℕ) (t u : Tally) : Type 0 where
  pub count : u.count ≡ cond b 1 0 + t.count
  pub last : u.last ≤ thing

-- a thing is counted where the function is named in it
fresh : (b : Bool) (thing : ℕ) (t : Tally) → t.last < thing → IsAfter b thing t (named b thing t)
fresh false thing t before = record { count = omega arith; last = omega (arith, before) }
fresh true thing t before = by (t.last == thing) refl
  where
    by : (c : Bool) → (t.last == thing) ≡ c → IsAfter true thing t (if c then t else record { count = t.count + 1; last = thing })
    by true is = let same = eqb-true t.last thing is in absurd (omega (arith, same, before))
    by false off = record { count = omega arith; last = omega arith }

-- the count of things that are numbered from one on is how many name the function
pub tallied-count : {X : Type 0} (names : X → Bool) (thing : ℕ) (t : Tally) (xs : List X) → t.last < thing → (tallied names thing t xs).count ≡ count_by names xs + t.count
tallied-count names thing t [] before = omega arith
tallied-count names thing t (x ∷ xs) before =
    let h = fresh (names x) thing t before in
    let rest = tallied-count names (suc thing) (named (names x) thing t) xs (omega (arith, h.last)) in
    let more = sum_by-cons (λ y. cond (names y) 1 0) x xs in
    omega (arith, h.count, rest, more)
