use Rattle.std.proofs.Common.{get_or, ◌∙◌}
use Rattle.bd_model.specs.DesignView.{design_view}
use Rattle.bd_symbolic.proofs.Looking.{look_denoted, look_sorted, none_left}
use Rattle.bd_symbolic.proofs.visible.project.Goals as goal

pub returns-clause-denotes : goal.returns-clause-denotes
returns-clause-denotes c =
    look_denoted (design_view c.args.design.now) c.args.state.now.entries _ c.requires.lawful c.requires.entries
    (c.from_vec.ensures ∙ none_left (λ i. get_or c.args.state.now.entries i 0) c.loop-place.entries.items c.as_slice-place-items.result.now c.loop-place.place-index _ c.loop-place-test.false c.loop-place.invariant)

pub returns-clause-sorted : goal.returns-clause-sorted
returns-clause-sorted c =
    look_sorted (design_view c.args.design.now) c.args.state.now.entries _ c.requires.lawful
    (c.from_vec.ensures ∙ none_left (λ i. get_or c.args.state.now.entries i 0) c.loop-place.entries.items c.as_slice-place-items.result.now c.loop-place.place-index _ c.loop-place-test.false c.loop-place.invariant)

pub returns-clause-made : goal.returns-clause-made
returns-clause-made c =
    c.from_vec.ensures ∙ none_left (λ i. get_or c.args.state.now.entries i 0) c.loop-place.entries.items c.as_slice-place-items.result.now c.loop-place.place-index _ c.loop-place-test.false c.loop-place.invariant
