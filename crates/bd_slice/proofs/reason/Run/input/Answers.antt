use Rattle.std.proofs.Common.{◌∙◌, List, ap, false, refl, sym}
use Rattle.std.specs.Prelude.{slice_index_or}
use Rattle.bd_model.specs.declared.table.Scalar.{Scalar}
use Rattle.bd_slice.proofs.Accounting.{given_reason, no_input_reason}
use Rattle.bd_slice.proofs.reason.Run.input.Goals as goal

pub returns-in-Case : goal.returns-in-Case
returns-in-Case c = rw c.in-Case.is (λ history has. given_reason _ _ _ _ refl c.plain.ensures.facts
    (ap (λ (xs : List Scalar). slice_index_or xs c.args.number (Scalar.Bool false)) (sym c.as_slice-values.ensures) ∙ sym c.input_at-value.ensures ∙ sym c.plain.ensures.value))

pub returns-in-Step : goal.returns-in-Step
returns-in-Step c = rw c.in-Step.is (λ history has. no_input_reason _ _ _ _ _ (λ o. refl) c.plain-in-Step.ensures.facts c.plain-in-Step.ensures.value)

pub returns-in-Invariant : goal.returns-in-Invariant
returns-in-Invariant c = rw c.in-Invariant.is (λ history has. no_input_reason _ _ _ _ _ (λ o. refl) c.plain-in-Invariant.ensures.facts c.plain-in-Invariant.ensures.value)
