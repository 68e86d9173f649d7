-- What several puts one after another have written.
use Rattle.std.proofs.Common.{◌≡◌, ℕ, ◌+◌, ◌<◌, min, List, [], ◌∷◌, ◌++◌, length, take, drop, get_or, Option, Some, None, sym, ap, ◌∙◌, subst, inl, inr, arith, append_assoc, take_all}
use Rattle.std.specs.List.{flat_map}
use Rattle.std.specs.Option.{option_map}
use Rattle.std.proofs.lemmas.Bool.{cases_lt}
use Rattle.std.proofs.lemmas.List.{take_more, take-append-le, flat_map_more, take-append-drop}
use Rattle.std.proofs.Math.Seq.{take-append-add}
use Rattle.std.proofs.lemmas.List.Concat.{flat_map-append}
use Rattle.bd_files.specs.Devices.{Appends, AppendsPrefix, Counts}
use Rattle.bd_files.specs.Numbers.{number_after}

Appends-then : (a b c : Option (List ℕ)) (xs ys : List ℕ) → Appends a b xs → Appends b c ys → Appends a c (xs ++ ys)
Appends-then None b c xs ys first second = second ∙ ap (option_map (λ w. w ++ ys)) first
Appends-then (Some zs) b c xs ys first second =
    second ∙ ap (option_map (λ w. w ++ ys)) first ∙ ap Some (append_assoc zs xs ys)

-- all of a first text, and a prefix of the next
AppendsPrefix-then : (a b c : Option (List ℕ)) (xs ys : List ℕ) → Appends a b xs → AppendsPrefix b c ys → AppendsPrefix a c (xs ++ ys)
AppendsPrefix-then a b c xs ys first (kept, second) = (
  length xs + kept,
  subst (λ l. Appends a c l) (sym (take-append-add xs ys kept)) (Appends-then a b c xs (take kept ys) first second),
)

take_min : (kept : ℕ) (xs : List ℕ) → take (min kept (length xs)) xs ≡ take kept xs
take_min kept xs = elim (cases_lt kept (length xs)) [
  | inl lt ↦ let e : min kept (length xs) ≡ kept = omega arith in ap (λ n. take n xs) e
  | inr le ↦ let e : min kept (length xs) ≡ length xs = omega arith in ap (λ n. take n xs) e ∙ take_all (length xs) xs (omega arith) ∙ sym (take_all kept xs le)
]

-- a prefix of a first text is one of both
AppendsPrefix-more : (a b : Option (List ℕ)) (xs ys : List ℕ) → AppendsPrefix a b xs → AppendsPrefix a b (xs ++ ys)
AppendsPrefix-more a b xs ys (kept, first) = (
  min kept (length xs),
  subst (λ l. Appends a b l) (sym (take-append-le (min kept (length xs)) xs ys (omega arith) ∙ take_min kept xs)) first,
)

-- the texts of the first pieces, of the next one, and of the rest
text_split : {X : Type 0} (f : X → List ℕ) (xs : List X) (i : ℕ) (d : X) → i < length xs
    → flat_map f xs ≡ (flat_map f (take i xs) ++ f (get_or xs i d)) ++ flat_map f (drop (i + 1) xs)
text_split f xs i d lt =
    ap (flat_map f) (sym (take-append-drop (i + 1) xs) ∙ ap (λ ys. ys ++ drop (i + 1) xs) (take_more xs i d lt))
    ∙ flat_map-append f (take i xs ++ get_or xs i d ∷ []) (drop (i + 1) xs)
    ∙ ap (λ ys. ys ++ flat_map f (drop (i + 1) xs)) (sym (flat_map_more f [] (take i xs) (get_or xs i d)))

-- all of the first pieces and a prefix of the next are a prefix of the whole
pub AppendsPrefix-pieces : {X : Type 0} (f : X → List ℕ) (xs : List X) (i : ℕ) (d : X) (a b c : Option (List ℕ)) → i < length xs
    → Appends a b (flat_map f (take i xs)) → AppendsPrefix b c (f (get_or xs i d)) → AppendsPrefix a c (flat_map f xs)
AppendsPrefix-pieces f xs i d a b c lt first second =
    subst (λ l. AppendsPrefix a c l) (sym (text_split f xs i d lt))
    (AppendsPrefix-more a c (flat_map f (take i xs) ++ f (get_or xs i d)) (flat_map f (drop (i + 1) xs))
    (AppendsPrefix-then a b c (flat_map f (take i xs)) (f (get_or xs i d)) first second))

-- the next number is one more, where there is one
pub counts_next : (next : Option ℕ) → Counts next (number_after next) 1
counts_next None = tt
counts_next (Some number) = grind arith
