-- The third literal of a clause, besides the two that it watches.
use Rattle.std.proofs.Common.{◌≡◌, ◌≢◌, ◌<◌, ◌+◌, ℕ, true, List, [], ◌∷◌, ◌++◌, Option, None, Some, length, take, get_or, sym, ap, ◌∙◌, subst, inl, inr, arith}
use Rattle.std.proofs.lemmas.List.{take_more}
use Rattle.std.specs.Prelude.{◌⊎◌, IfSome, unwrap_or}
use Rattle.bd_cnf.specs.Literal.{Literal, has_literal}
use Rattle.bd_cnf.specs.Packed.{literal_index}
use Rattle.bd_watch.specs.declared.watcher.WatchedPair.{WatchedPair}
use Rattle.bd_watch.specs.declared.watcher.Watcher.{Watcher}
use Rattle.bd_watch.specs.Watching.{IsThird, IsPair, IsRest}
use Rattle.bd_watch.specs.inner.Watchers.{AreTwo}
use Rattle.bd_watch.proofs.Parts.{has_left, has_either, has_single}
use Rattle.bd_watch.proofs.Guards.{apart_from}

-- what some literals have besides two: none, or one
abbrev pub HasBesides : List Literal → Literal → Literal → Option Literal → Type 0
HasBesides part first second None = (m : Literal) → has_literal part m ≡ true → (m ≡ first) ⊎ (m ≡ second)
HasBesides part first second (Some l) = IsThird part first second l

-- one literal more
pub taken_more : (clause : List Literal) (k : ℕ) (l : Literal) → k < length clause → l ≡ get_or clause k l → take (k + 1) clause ≡ take k clause ++ l ∷ []
taken_more clause k l low is = take_more clause k l low ∙ ap (λ (m : Literal). take k clause ++ m ∷ []) (sym is)

-- one of the two comes, or the first other one
pub besides_same : (part : List Literal) (first second l : Literal) (found : Option Literal) → HasBesides part first second found → (l ≡ first) ⊎ (l ≡ second) → HasBesides (part ++ l ∷ []) first second found
besides_same part first second l None is one = λ m h. has_either part (l ∷ []) m h (λ here. is m here) (λ here. subst (λ (k : Literal). (k ≡ first) ⊎ (k ≡ second)) (sym (has_single m l here)) one)
besides_same part first second l (Some t) is one = record {
  here = has_left part (l ∷ []) t is.here;
  not_first = is.not_first;
  not_second = is.not_second;
  all = λ m h. has_either part (l ∷ []) m h (λ here. is.all m here) (λ here. inr (subst (λ (k : Literal). (k ≡ first) ⊎ (k ≡ second)) (sym (has_single m l here)) one));
}

-- the third literal of a clause, beside the two in either order
pub third_of : (clause : List Literal) (p : WatchedPair) (l other t : Literal) → IsPair clause p → AreTwo p l other → p.third ≡ Some t → IsThird clause l other t
third_of clause p l other t is two named = turned two
  where
    third : IsThird clause p.first p.second t
    third = subst (λ o. IfSome o (IsThird clause p.first p.second)) named is.third

    turned : AreTwo p l other → IsThird clause l other t
    turned (inl (first, second)) = record {
      here = third.here;
      not_first = λ e. third.not_first (e ∙ first);
      not_second = λ e. third.not_second (e ∙ second);
      all = λ m h. elim (third.all m h) [ inl e ↦ inl e | inr (inl e) ↦ inr (inl (e ∙ sym first)) | inr (inr e) ↦ inr (inr (e ∙ sym second)) ];
    }
    turned (inr (second, first)) = record {
      here = third.here;
      not_first = λ e. third.not_second (e ∙ second);
      not_second = λ e. third.not_first (e ∙ first);
      all = λ m h. elim (third.all m h) [ inl e ↦ inl e | inr (inl e) ↦ inr (inr (e ∙ sym first)) | inr (inr e) ↦ inr (inl (e ∙ sym second)) ];
    }

-- a watcher whose rest is its blocker says nothing
pub unsaid : (clause : List Literal) (index : ℕ) (w : Watcher) → w.rest ≡ w.blocker → has_literal clause w.rest ≡ true → IsRest clause index w
unsaid clause index w same here = record { here = here; all = λ apart m h. absurd (apart_from w.rest w.blocker apart same) }

-- the rest of a clause of three literals is the third
pub rest_third : (clause : List Literal) (first second t : Literal) (w : Watcher) → IsThird clause first second t → w.blocker ≡ second → w.rest ≡ t → IsRest clause (literal_index first) w
rest_third clause first second t w third blocker rest = record {
  here = subst (λ (m : Literal). has_literal clause m ≡ true) (sym rest) third.here;
  all = λ apart m h. elim (third.all m h) [ inl e ↦ inr (inr (e ∙ sym rest)) | inr (inl e) ↦ inl (ap literal_index e) | inr (inr e) ↦ inr (inl (e ∙ sym blocker)) ];
}

-- a clause of two literals has no other than two of its literals that differ
two_only : (clause : List Literal) (first second m : Literal) → length clause ≡ 2 → has_literal clause first ≡ true → has_literal clause second ≡ true → first ≢ second → has_literal clause m ≡ true → (m ≡ first) ⊎ (m ≡ second)
two_only [] first second m size one two apart h = absurd (omega arith)
two_only (a ∷ []) first second m size one two apart h = absurd (omega arith)
two_only (a ∷ b ∷ c ∷ rest) first second m size one two apart h = absurd (omega arith)
two_only (a ∷ b ∷ []) first second m size one two apart h = from (either first one) (either second two) (either m h)
  where
    either : (x : Literal) → has_literal (a ∷ b ∷ []) x ≡ true → (x ≡ a) ⊎ (x ≡ b)
    either x here = has_either (a ∷ []) (b ∷ []) x here (λ i. inl (has_single x a i)) (λ i. inr (has_single x b i))

    from : (first ≡ a) ⊎ (first ≡ b) → (second ≡ a) ⊎ (second ≡ b) → (m ≡ a) ⊎ (m ≡ b) → (m ≡ first) ⊎ (m ≡ second)
    from (inl e) (inl f) at = absurd (apart (e ∙ sym f))
    from (inr e) (inr f) at = absurd (apart (e ∙ sym f))
    from (inl e) (inr f) (inl g) = inl (g ∙ sym e)
    from (inl e) (inr f) (inr g) = inr (g ∙ sym f)
    from (inr e) (inl f) (inl g) = inr (g ∙ sym f)
    from (inr e) (inl f) (inr g) = inl (g ∙ sym e)

-- so its rest is the literal that it watches
pub rest_first : (clause : List Literal) (p : WatchedPair) (w : Watcher) → IsPair clause p → length clause ≡ 2 → w.blocker ≡ p.second → w.rest ≡ p.first → IsRest clause (literal_index p.first) w
rest_first clause p w is size blocker rest = record {
  here = subst (λ (m : Literal). has_literal clause m ≡ true) (sym rest) is.first;
  all = λ apart m h. elim (two_only clause p.first p.second m size is.first is.second is.apart h) [ inl e ↦ inl (ap literal_index e) | inr e ↦ inr (inl (e ∙ sym blocker)) ];
}

-- the rest is the third literal, where a third one is known, and else the blocker
pub rest_known : (clause : List Literal) (p : WatchedPair) (w : Watcher) (o : Option Literal) → IsPair clause p → IfSome o (IsThird clause p.first p.second) → w.blocker ≡ p.second → w.rest ≡ unwrap_or o p.second → IsRest clause (literal_index p.first) w
rest_known clause p w None is third blocker rest = unsaid clause (literal_index p.first) w (rest ∙ sym blocker) (subst (λ (m : Literal). has_literal clause m ≡ true) (sym rest) is.second)
rest_known clause p w (Some t) is third blocker rest = rest_third clause p.first p.second t w third blocker rest
