-- The lines of things in some places, one after another.
use Rattle.std.proofs.Common.{◌≡◌, ◌+◌, ◌<◌, ◌≤◌, ◌∙◌, ℕ, List, ◌++◌, length, get_or, drop, ap, sym, refl, append_assoc, append-nil, Bor}
use Rattle.std.specs.Prelude.{Option, Some, None, IfSome, MatchOption, option_copied, slice_get}
use Rattle.std.proofs.lemmas.List.{at_drop_more}
use Rattle.std.proofs.lemmas.Option.{slice_get_past, slice_get_read}
use Rattle.bd_about.specs.UnreadLines.{line_if, lines_at}

-- what is lent of a list is the thing in the place
pub lent : {X : Type 0} (P : Bor X → Type 0) (xs : List X) (i : ℕ) (r : Option (Bor X)) → IfSome r (λ x. x.now ≡ get_or xs i x.now) → MatchOption r (length xs ≤ i) (λ x. (i < length xs) × P x)
    → slice_get xs i ≡ option_copied r
lent P xs i None same at = slice_get_past xs i at
lent P xs i (Some x) same at = slice_get_read xs (length xs) i x.now refl at.0 same

module _ {X : Type 0} (line : X → List ℕ) where
  pub with_line : (o : Option X) (x : X) (out out' : List ℕ) → o ≡ Some x → out' ≡ out ++ line x → out' ≡ out ++ line_if line o
  with_line o x out out' is pushed = pushed ∙ ap (λ p. out ++ line_if line p) (sym is)

  pub without_line : (o : Option X) (out out' : List ℕ) → o ≡ None → out' ≡ out → out' ≡ out ++ line_if line o
  without_line o out out' is same = same ∙ sym (append-nil out) ∙ ap (λ p. out ++ line_if line p) (sym is)

  -- with the line of the next place, the lines that are left are fewer by it
  pub next_line : (xs : List X) (places : List ℕ) (k : ℕ) (out out' whole : List ℕ) → k < length places → out' ≡ out ++ line_if line (slice_get xs (get_or places k 0))
      → out ++ lines_at line xs (drop k places) ≡ whole → out' ++ lines_at line xs (drop (k + 1) places) ≡ whole
  next_line xs places k out out' whole within pushed before =
      let rest = lines_at line xs (drop (k + 1) places) in
      ap (λ o. o ++ rest) pushed ∙ append_assoc out (line_if line (slice_get xs (get_or places k 0))) rest
      ∙ sym (at_drop_more (λ ps. out ++ lines_at line xs ps) places k 0 within) ∙ before
