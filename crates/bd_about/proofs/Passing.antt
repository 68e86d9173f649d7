-- A pass over lets, the last one first, marks what is reached.
use Rattle.std.proofs.Common.{◌≡◌, ◌⊎◌, ◌≤◌, ℕ, suc, Bool, true, false, List, length, refl, sym, ◌∙◌, subst, inl, inr, Some, arith}
use Rattle.std.specs.Prelude.{◌&&◌, slice_get}
use Rattle.std.proofs.lemmas.Option.{slice_get_within}
use Rattle.bd_model.specs.DesignView.{LocalView}
use Rattle.bd_model.specs.ExprView.{ExprView}
use Rattle.bd_about.specs.Named.{names}
use Rattle.bd_about.specs.Marked.{Adds, is_marked}
use Rattle.bd_about.specs.Reached.{IsReached, by_root, by_let}
use Rattle.bd_about.specs.inner.Marking.{AreMarked, LeadsOn, UseEarlier}
use Rattle.bd_about.specs.declared.named.Named.{Named}
use Rattle.bd_about.specs.declared.named.Named.TheVariants as named
use Rattle.bd_about.specs.declared.marks.NameMarks.{NameMarks}
use Rattle.bd_list.proofs.Numbers.{le-cases}
use Rattle.bd_list.proofs.Truths.{or_cases, or_left, or_right}

-- the lets from the i-th on were passed
pub record Passed (lets : List LocalView) (first now : NameMarks) (i : ℕ) : Type 0 where
  pub sound : (roots : List ExprView) → AreMarked roots first → (x : Named) → is_marked now x ≡ true → IsReached roots lets x
  pub kept : (x : Named) → is_marked first x ≡ true → is_marked now x ≡ true
  pub closed : (j : ℕ) (l : LocalView) (x : Named) → i ≤ j → slice_get lets j ≡ Some l → is_marked now (named.Local j) ≡ true → names x l.value ≡ true → is_marked now x ≡ true

pub passed_none : (lets : List LocalView) (first : NameMarks) (i : ℕ) → length lets ≤ i → Passed lets first first i
passed_none lets first i past = record {
  sound = λ roots marked x on. by_root x (sym (marked.each x) ∙ on);
  kept = λ x on. on;
  closed = λ j l x below at on uses. let inside = slice_get_within lets j l at in absurd (omega (arith, inside, below, past));
}

and_both : (a b : Bool) → (a && b) ≡ true → (a ≡ true) × (b ≡ true)
and_both true b h = (refl, h)
and_both false b h = absurd (cc h)

both_and : (a b : Bool) → a ≡ true → b ≡ true → (a && b) ≡ true
both_and true b h k = k
both_and false b h k = absurd (cc h)

here_or_later : (i j : ℕ) → i ≤ j → (j ≡ i) ⊎ (suc i ≤ j)
here_or_later i j h = elim (le-cases i j h) [ inl p ↦ inr p | inr e ↦ inl (sym e) ]

was_marked : (lets : List LocalView) (first now next : NameMarks) (i : ℕ) (l : LocalView) → Passed lets first now (suc i) → slice_get lets i ≡ Some l
    → Adds now next (λ x. is_marked now (named.Local i) && names x l.value) → (j : ℕ) (m : LocalView) (x : Named) → slice_get lets j ≡ Some m → is_marked now (named.Local j) ≡ true → names x m.value ≡ true
    → (j ≡ i) ⊎ (suc i ≤ j) → is_marked next x ≡ true
was_marked lets first now next i l h at adds j m x at_j old uses (inl same) =
    let here : slice_get lets i ≡ Some m = subst (λ k. slice_get lets k ≡ Some m) same at_j in
    let one : m ≡ l = cc in
    adds.each x ∙ or_right _ _ (both_and _ _ (subst (λ k. is_marked now (named.Local k) ≡ true) same old) (subst (λ y. names x y.value ≡ true) one uses))
was_marked lets first now next i l h at adds j m x at_j old uses (inr more) = adds.each x ∙ or_left _ _ (h.closed j m x more at_j old uses)

-- one let more is passed: where it is marked, what it names is marked too
pub passed_more : (lets : List LocalView) (first now next : NameMarks) (i : ℕ) (l : LocalView) → UseEarlier lets → Passed lets first now (suc i) → slice_get lets i ≡ Some l
    → Adds now next (λ x. is_marked now (named.Local i) && names x l.value) → Passed lets first next i
passed_more lets first now next i l earlier h at adds = record {
  sound = λ roots marked x on. elim (or_cases _ _ (sym (adds.each x) ∙ on)) [
    | inl old ↦ h.sound roots marked x old
    | inr new ↦ let both = and_both _ _ new in by_let x i l (h.sound roots marked (named.Local i) both.0) at both.1
  ];
  kept = λ x on. adds.each x ∙ or_left _ _ (h.kept x on);
  closed = λ j m x below at_j on uses. elim (or_cases _ _ (sym (adds.each (named.Local j)) ∙ on)) [
    | inl old ↦ was_marked lets first now next i l h at adds j m x at_j old uses (here_or_later i j below)
    | inr new ↦ let both = and_both _ _ new in let up = earlier.each j i l at both.1 in absurd (omega (arith, up, below))
  ];
}

all_reached : (lets : List LocalView) (first now : NameMarks) → Passed lets first now 0 → (roots : List ExprView) → AreMarked roots first → (x : Named) → IsReached roots lets x → is_marked now x ≡ true
all_reached lets first now h roots marked x (by_root y on) = h.kept y (marked.each y ∙ on)
all_reached lets first now h roots marked x (by_let y i l reached at uses) = h.closed i l y (omega arith) at (all_reached lets first now h roots marked (named.Local i) reached) uses

pub passed_all : (lets : List LocalView) (first now : NameMarks) → Passed lets first now 0 → LeadsOn lets first now
passed_all lets first now h = record { each = λ roots marked. record { each = λ x. (h.sound roots marked x, all_reached lets first now h roots marked x) } }
