use Rattle.std.proofs.Common.{◌∙◌, [], ap}
use Rattle.bd_model.specs.DesignView.{design_view}
use Rattle.bd_slice.specs.inner.Moments.{values_in}
use Rattle.bd_slice.proofs.moment.history_of.Goals as goal

pub returns : goal.returns
returns c = record {
  first = c.in_ok-first.ensures;
  before = c.in_ok-before.ensures;
  after = rw c.in_ok-state.ensures at c.in_ok-next.ensures.after;
  steps = c.in_ok-steps.ensures;
  kept = c.in_ok-next.ensures.kept ∙ ap (λ s. values_in (design_view c.args.design.now).inv_locals c.args.case.now.interp s []) c.in_ok-state.ensures;
}
