-- Two diagrams that say the same, and what differs in their cases.
use Rattle.std.proofs.Common.{◌≡◌, ◌↔◌, ℕ, zero, suc, ◌<◌, ◌≤◌, Bool, true, false, IsTrue, List, [], ◌∷◌, length, get_or, refl, sym, ◌∙◌, subst, arith}
use Rattle.std.specs.Prelude.{Some, slice_get}
use Rattle.std.specs.List.{AllZip}
use Rattle.std.proofs.lemmas.Option.{slice_get_within, get_or_from_slice_get}
use Rattle.std.proofs.lemmas.List.Elements.{same_from_all_zip}
use Rattle.bd_model.specs.DesignView.{DesignView}
use Rattle.bd_model.specs.declared.case.Case.{Case}
use Rattle.bd_model.proofs.Pairs.{AllZip-at}
use Rattle.bd_diagram.specs.Diagrams.{IsComparison, IsDiagram}
use Rattle.bd_diagram.specs.Alike.{IsSameDifference, IsAlike, DiffersAlikeAfter, DiffersAlike}
use Rattle.bd_diagram.specs.Laws.{AlikeWhereCompared}
use Rattle.bd_diagram.specs.declared.comparison.Comparison.{Comparison}
use Rattle.bd_diagram.specs.declared.diagram.Diagram.{Diagram}
use Rattle.bd_diagram.specs.declared.difference.Difference.{Difference}
use Rattle.bd_diagram.proofs.Compared.{item_at}

-- two lists of one length, compared at each place
zip_by : {A B : Type 0} (R : A → B → Type 0) (xs : List A) (ys : List B) → length xs ≡ length ys → ((j : ℕ) (x : A) (y : B) → slice_get xs j ≡ Some x → slice_get ys j ≡ Some y → R x y) → AllZip R xs ys
zip_by R [] [] e h = tt
zip_by R [] (y ∷ ys) e h = absurd (omega (arith, e))
zip_by R (x ∷ xs) [] e h = absurd (omega (arith, e))
zip_by R (x ∷ xs) (y ∷ ys) e h = (h 0 x y refl refl, zip_by R xs ys (omega (arith, e)) (λ j a b p q. h (suc j) a b p q))

same_truth : (a b : Bool) → (IsTrue a ↔ IsTrue b) → b ≡ a
same_truth true true h = refl
same_truth false false h = refl
same_truth true false h = h.0 refl
same_truth false true h = sym (h.1 refl)

all_same : (xs : List Difference) → AllZip IsSameDifference xs xs
all_same [] = tt
all_same (x ∷ xs) = (refl, all_same xs)

-- comparisons that say the same are of cases in which the same differs
after : (d : DesignView) (c s : Case) (j : ℕ) (x y : Comparison) → IsComparison d c j x → IsComparison d s j y → IsAlike x y → DiffersAlikeAfter d c s j
after d c s j x y is other alike =
    let same : y.differences ≡ x.differences = same_from_all_zip IsSameDifference x.differences y.differences alike.differences (λ e f h. h) in
    record {
      allowed = (
        λ h. other.allowed.0 (subst (λ b. IsTrue b) (sym alike.allowed) (is.allowed.1 h)),
        λ h. is.allowed.0 (subst (λ b. IsTrue b) alike.allowed (other.allowed.1 h)),
      );
      differences = sym other.differences ∙ same ∙ is.differences;
    }

compared : (d : DesignView) (c s : Case) (j : ℕ) (x y : Comparison) → IsComparison d c j x → IsComparison d s j y → DiffersAlikeAfter d c s j → IsAlike x y
compared d c s j x y is other alike =
    let same : y.differences ≡ x.differences = other.differences ∙ alike.differences ∙ sym is.differences in
    record {
      allowed = same_truth x.allowed y.allowed (
        λ t. other.allowed.1 (alike.allowed.0 (is.allowed.0 t)),
        λ t. is.allowed.1 (alike.allowed.1 (other.allowed.0 t)),
      );
      differences = subst (λ es. AllZip IsSameDifference x.differences es) (sym same) (all_same x.differences);
    }

pub alike : AlikeWhereCompared
alike d c s g h is other = (
  λ all j within.
      let x = item_at g.comparisons j (omega (arith, within, is.counts)) in
      let y = item_at h.comparisons j (omega (arith, within, other.counts)) in
      let pair : IsAlike x.0 (get_or h.comparisons j y.0) = AllZip-at IsAlike g.comparisons h.comparisons y.0 all j x.0 x.1 in
      let same : get_or h.comparisons j y.0 ≡ y.0 = get_or_from_slice_get h.comparisons j y.0 y.0 y.1 in
      after d c s j x.0 y.0 (is.comparisons j x.0 x.1) (other.comparisons j y.0 y.1) (subst (λ z. IsAlike x.0 z) same pair),
  λ each.
      zip_by IsAlike g.comparisons h.comparisons (is.counts ∙ sym other.counts)
      (λ j x y p q.
      let within = slice_get_within g.comparisons j x p in
      compared d c s j x y (is.comparisons j x p) (other.comparisons j y q) (each j (omega (arith, within, is.counts)))),
)
