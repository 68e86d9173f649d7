-- Text that is written a stage at a time: what is still to come, and what the whole is.
use Rattle.std.proofs.Common.{◌≡◌, ◌≢◌, ◌==◌, ◌&&◌, nat_le, false, ℕ, ◌+◌, ◌-◌, ◌<◌, ◌≤◌, List, [], ◌∷◌, ◌++◌, ap, sym, ◌∙◌, append_assoc, arith, reverse}
use Rattle.std.proofs.lemmas.List.{reverse-append}
use Rattle.std.proofs.iter.Rest.{range_with_len_first, range_with_len_last}
use Rattle.std.specs.List.{flat_map, range_with_len}
use Rattle.bd_gen.specs.Pipeline.{stages}

-- what is written in two parts
pub both : {X : Type 0} (before first second : List X) {middle after : List X} → middle ≡ before ++ first → after ≡ middle ++ second → after ≡ before ++ (first ++ second)
both before first second one two = two ∙ ap (λ t. t ++ second) one ∙ append_assoc before first second

module _ {X : Type 0} (f : ℕ → List X) where
  -- the first of the stages that are to come is written
  pub flat-first : (i last : ℕ) (before after whole : List X) → i ≤ last → after ≡ before ++ f i → before ++ flat_map f (stages i last) ≡ whole → after ++ flat_map f (stages (i + 1) last) ≡ whole
  flat-first i last before after whole low wrote rest =
      ap (λ t. t ++ flat_map f (stages (i + 1) last)) wrote
      ∙ append_assoc before (f i) (flat_map f (stages (i + 1) last))
      ∙ ap (λ s. before ++ flat_map f s) (sym (range_with_len_first i (last + 1) (omega arith)))
      ∙ rest

  -- the last of the stages below end is written, where they go from the last to the first
  pub flat-last : (first end : ℕ) (before after whole : List X) → first < end → after ≡ before ++ f (end - 1) → before ++ flat_map f (reverse (range_with_len first (end - first))) ≡ whole → after ++ flat_map f (reverse (range_with_len first (end - 1 - first))) ≡ whole
  flat-last first end before after whole low wrote rest =
      let younger = range_with_len first (end - 1 - first) in
      ap (λ t. t ++ flat_map f (reverse younger)) wrote
      ∙ append_assoc before (f (end - 1)) (flat_map f (reverse younger))
      ∙ ap (λ s. before ++ flat_map f s) (sym (ap reverse (range_with_len_last first end low) ∙ reverse-append younger ((end - 1) ∷ [])))
      ∙ rest

-- where path i - 1 is not the one that is left out, stage i forwards
pub not_missing : (drop i : ℕ) → i - 1 ≢ drop → (nat_le 1 drop && (i == drop + 1)) ≡ false
not_missing drop i other = grind arith
