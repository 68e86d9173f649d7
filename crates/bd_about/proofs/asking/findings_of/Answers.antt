use Rattle.std.proofs.Common.{◌≡◌, ◌∙◌, subst}
use Rattle.bd_model.specs.DesignView.{design_view}
use Rattle.bd_about.specs.inner.Asked.{IsMoreFlushed, IsMoreSteps, IsReset, IsWithoutInvariant, IsWithoutSteps}
use Rattle.bd_about.proofs.asking.findings_of.Goals as goal

pub returns-clause-findings : goal.returns-clause-findings
returns-clause-findings c =
    let d = design_view c.args.design in
    let given = c.args.given in
    let own = c.args.own in
    let once : design_view c.in_ok-less_flushed.design ≡ d = c.in_ok-less_flushed.ensures.again in
    let twice : design_view c.in_ok-more_flushed.design ≡ d = c.in_ok-more_flushed.ensures.again ∙ once in
    let thrice : design_view c.in_ok-more_steps.design ≡ d = c.in_ok-more_steps.ensures.again ∙ twice in
    let last : design_view c.in_ok-without_invariant.design ≡ d = c.in_ok-without_invariant.ensures.again ∙ thrice in
    let more_flushed : IsMoreFlushed d given own c.in_ok-more_flushed.more_flushed =
    subst (λ e. IsMoreFlushed e given own c.in_ok-more_flushed.more_flushed) once c.in_ok-more_flushed.ensures.found in
    let more_steps : IsMoreSteps d given own c.in_ok-more_steps.more_steps =
    subst (λ e. IsMoreSteps e given own c.in_ok-more_steps.more_steps) twice c.in_ok-more_steps.ensures.found in
    let no_invariant : IsWithoutInvariant d given c.in_ok-without_invariant.without_invariant =
    subst (λ e. IsWithoutInvariant e given c.in_ok-without_invariant.without_invariant) thrice c.in_ok-without_invariant.ensures.found in
    let reset : IsReset d given c.in_ok-reset.reset =
    subst (λ e. IsReset e given c.in_ok-reset.reset) last c.in_ok-reset.ensures in
    let no_steps : IsWithoutSteps d given c.in_ok-without_steps.without_steps =
    subst (λ e. IsWithoutSteps e given c.in_ok-without_steps.without_steps) last c.in_ok-without_steps.ensures in
    record {
      own = c.requires.own;
      less_flushed = c.in_ok-less_flushed.ensures.found.finding;
      more_flushed = more_flushed.finding;
      more_steps = more_steps.finding;
      without_invariant = no_invariant.finding;
      reset = reset.met;
      without_steps = no_steps.finding;
      never_steps = no_steps.never_steps;
    }
