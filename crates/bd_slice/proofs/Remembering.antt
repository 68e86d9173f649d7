-- Values of cycles, put one after another.
use Rattle.std.proofs.Common.{◌≡◌, ℕ, zero, suc, ◌<◌, ◌≤◌, ◌+◌, List, [], ◌∷◌, ◌++◌, length, slice_get, None, Some, refl, sym, ap, subst, ◌∙◌, arith}
use Rattle.std.proofs.lemmas.List.{length_push}
use Rattle.std.proofs.lemmas.Option.{none-some, slice_get_within}
use Rattle.bd_slice.specs.History.{AreMoments}
use Rattle.bd_slice.specs.declared.moment.Moment.{Moment}

pub no_moments : (moments : ℕ → Moment) → AreMoments 0 moments []
no_moments moments = record { count = refl; each = λ n within. absurd (omega (arith, within)) }

each_more : (f : ℕ → Moment) (ms : List Moment) (m : Moment) → ((n : ℕ) → n < length ms → slice_get ms n ≡ Some (f n)) → m ≡ f (length ms) → (n : ℕ) → n < length ms + 1 → slice_get (ms ++ m ∷ []) n ≡ Some (f n)
each_more f [] m h is zero within = ap Some is
each_more f [] m h is (suc n) within = absurd (omega (arith, within))
each_more f (x ∷ xs) m h is zero within = h zero (omega arith)
each_more f (x ∷ xs) m h is (suc n) within = each_more (λ k. f (suc k)) xs m (λ k b. h (suc k) (omega (arith, b))) is n (omega (arith, within))

pub moments_more : (k : ℕ) (f : ℕ → Moment) (ms new : List Moment) (m : Moment) → AreMoments k f ms → new ≡ ms ++ m ∷ [] → m ≡ f k → AreMoments (k + 1) f new
moments_more k f ms new m before put is = subst (AreMoments (k + 1) f) (sym put) (record {
  count = length_push ms m ∙ ap (λ n. n + 1) before.count;
  each = λ n within. each_more f ms m (λ i b. before.each i (omega (arith, b, before.count))) (is ∙ ap f (sym before.count)) n (omega (arith, within, before.count));
})

-- a cycle that is there, and one that isn't
pub moment_there : (k : ℕ) (f : ℕ → Moment) (ms : List Moment) (n : ℕ) (m : Moment) → AreMoments k f ms → slice_get ms n ≡ Some m → m ≡ f n
moment_there k f ms n m are at =
    let within : n < length ms = slice_get_within ms n m at in
    some_same m (f n) (sym at ∙ are.each n (omega (arith, within, are.count)))
  where
    some_same : (x y : Moment) → Some x ≡ Some y → x ≡ y
    some_same x y h = search (h)

pub moment_past : (k : ℕ) (f : ℕ → Moment) (ms : List Moment) (n : ℕ) → AreMoments k f ms → slice_get ms n ≡ None → n < k → ⊥
moment_past k f ms n are at within = none-some (f n) (sym at ∙ are.each n within)
