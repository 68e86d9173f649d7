-- The values of what differs, found one after another.
use Rattle.std.proofs.Common.{Result, IfOk, ◌≡◌, ◌↔◌, ◌⊎◌, inl, inr, ℕ, ◌≤◌, Bool, IsTrue, List, [], ◌∷◌, ◌++◌, length, refl, sym, ◌∙◌, ap, subst, arith}
use Rattle.std.specs.List.{AllZip}
use Rattle.std.specs.declared.alloc.AllocError.{AllocError}
use Rattle.std.proofs.lemmas.List.{append-nil}
use Rattle.std.proofs.lemmas.List.Elements.{same_from_all_zip}
use Rattle.bd_model.specs.DesignView.{DesignView}
use Rattle.bd_model.specs.declared.table.Scalar.{Scalar}
use Rattle.bd_model.specs.declared.table.Value.{Value}
use Rattle.bd_model.specs.declared.case.Case.{Case}
use Rattle.bd_model.specs.declared.case.Condition.{Condition}
use Rattle.bd_model.specs.declared.case.Condition.TheVariants as condition
use Rattle.bd_diagram.specs.Alike.{IsAlike}
use Rattle.bd_diagram.specs.Diagrams.{IsDiagram}
use Rattle.bd_diagram.specs.Laws.{AlikeWhereCompared}
use Rattle.bd_diagram.specs.declared.comparison.Comparison.{Comparison}
use Rattle.bd_diagram.specs.declared.diagram.Diagram.{Diagram}
use Rattle.bd_diagram.specs.declared.difference.Difference.{Difference}
use Rattle.bd_shrink.specs.Apart.{values_where, values_below, differing_values}
use Rattle.bd_shrink.specs.Shrunk.{Keeps, KeepsDifferences}
use Rattle.bd_shrink.specs.inner.Found.{IsApart, IsSameScalar}
use Rattle.bd_shrink.specs.declared.apart.Apart.{Apart}

none_left : (es : List Difference) (vs : List Value) → (es ≡ []) ⊎ (vs ≡ []) → values_where es vs ≡ []
none_left [] vs h = refl
none_left (e ∷ es) [] h = refl
none_left (e ∷ es) (v ∷ vs) (inl h) = absurd (cc)
none_left (e ∷ es) (v ∷ vs) (inr h) = absurd (cc)

-- where one of the lists is at its end, all is found
pub values_end : (out total : List Scalar) (es : List Difference) (vs : List Value) → (es ≡ []) ⊎ (vs ≡ []) → out ++ values_where es vs ≡ total → out ≡ total
values_end out total es vs none e = sym (append-nil out) ∙ sym (ap (λ r. out ++ r) (none_left es vs none)) ∙ e

-- the values of all comparisons
pub values_all : (d : DesignView) (c : Case) (g : Diagram) (xs : List Comparison) (n : ℕ) (items result : List Scalar) → IsDiagram d c g → xs ≡ g.comparisons → length xs ≤ n → n ≤ length xs
    → items ≡ values_below n d c → result ≡ items → result ≡ differing_values d c
values_all d c g xs n items result is same all within so_far put =
    let end : n ≡ length xs = omega (arith, all, within) in
    put ∙ so_far ∙ ap (λ k. values_below k d c) (end ∙ ap length same ∙ is.counts)

all_same : (xs : List Scalar) → AllZip IsSameScalar xs xs
all_same [] = tt
all_same (x ∷ xs) = (refl, all_same xs)

same_values : (xs ys : List Scalar) → (ys ≡ xs) ↔ AllZip IsSameScalar xs ys
same_values xs ys = (λ e. subst (λ zs. AllZip IsSameScalar xs zs) (sym e) (all_same xs), λ h. same_from_all_zip IsSameScalar xs ys h (λ x y e. e))

-- two cases that show the same keep what differs
pub kept : (d : DesignView) (c s : Case) (x y : Apart) (b : Bool) → AlikeWhereCompared → IsApart d c x → IsApart d s y
    → (IsTrue b ↔ (AllZip IsAlike x.diagram.comparisons y.diagram.comparisons × AllZip IsSameScalar x.values y.values)) → IsTrue b ↔ KeepsDifferences d c s
kept d c s x y b law is other told =
    let alike = law d c s x.diagram y.diagram is.diagram other.diagram in
    let same = same_values x.values y.values in (
      λ t. let k = told.0 t in record { places = alike.0 k.0; values = sym other.values ∙ same.1 k.1 ∙ is.values },
      λ k. told.1 (alike.1 k.places, same.0 (other.values ∙ k.values ∙ sym is.values)),
    )

-- what has to stay where the diagram is what a case breaks
pub keeps_commute : (d : DesignView) (c s : Case) (which : Condition) (r : Result Bool AllocError) → which ≡ condition.Commute → IfOk r (λ b. IsTrue b ↔ KeepsDifferences d c s)
    → IfOk r (λ b. IsTrue b ↔ Keeps d c s which)
keeps_commute d c s which r is h = subst (λ (k : Condition). IfOk r (λ b. IsTrue b ↔ Keeps d c s k)) (sym is) h

-- a case keeps what differs in it
pub keeps_itself : (d : DesignView) (c : Case) (which : Condition) → Keeps d c c which
keeps_itself d c condition.Invariant = tt
keeps_itself d c condition.Commute = record { places = λ j within. record { allowed = (λ h. h, λ h. h); differences = refl }; values = refl }
