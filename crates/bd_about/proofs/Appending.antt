-- Texts put one after another.
use Rattle.std.proofs.Common.{◌≡◌, ◌++◌, ℕ, List, append_assoc, ap, ◌∙◌}
use Rattle.std.specs.Prelude.{Err, Ok, OnOk, Result, if◌then◌else◌, is_ok}
use Rattle.bd_about.specs.PartLines.{counted}

-- what is put after a text and after what was put before is after the text
pub put-more : (old mid new a b : List ℕ) → mid ≡ old ++ a → new ≡ mid ++ b → new ≡ old ++ (a ++ b)
put-more old mid new a b first second = second ∙ ap (λ xs. xs ++ b) first ∙ append_assoc old a b

-- and so of a count
pub put-count : (what : List ℕ) (old mid new a : List ℕ) (n m : ℕ) → n ≡ m → mid ≡ old ++ a → new ≡ mid ++ counted what n → new ≡ old ++ (a ++ counted what m)
put-count what old mid new a n m same first second =
    put-more old mid new a (counted what m) first (second ∙ ap (λ k. mid ++ counted what k) same)

-- what a call puts after a text where it ends well
pub put-ok : {T E : Type 0} (r : Result T E) (old new more : List ℕ) → new ≡ (if is_ok r then old ++ more else old) → OnOk r (new ≡ old ++ more)
put-ok (Ok x) old new more h = h
put-ok (Err e) old new more h = tt
