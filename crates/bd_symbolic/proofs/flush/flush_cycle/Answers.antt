use Rattle.std.proofs.Common.{refl}
use Rattle.bd_model.specs.DesignView.{design_view}
use Rattle.bd_symbolic.specs.States.{StateHasSorts}
use Rattle.bd_symbolic.specs.declared.state.SymState.{SymState}
use Rattle.bd_symbolic.proofs.Growing.{Grows-trans, KeepsDesign-Grows}
use Rattle.bd_symbolic.proofs.Making.{over-Extends}
use Rattle.bd_symbolic.proofs.Cycles.{idles, idle_sorted, flush_sorted, flush_denotes}
use Rattle.bd_symbolic.proofs.flush.flush_cycle.Goals as goal

pub next_entries-requires-clause-keeps : goal.next_entries-requires-clause-keeps
next_entries-requires-clause-keeps c = KeepsDesign-Grows (design_view c.args.design.now) _ _ c.idle_inputs.ensures.grows c.requires.keeps

pub next_entries-requires-clause-sorted : goal.next_entries-requires-clause-sorted
next_entries-requires-clause-sorted c = idle_sorted (design_view c.args.design.now) _ _ c.args.state _ c.requires.sorted c.idle_inputs.ensures.grows c.in_ok-inputs.ensures.idle refl

pub returns-in_err-entries-clause-grows : goal.returns-in_err-entries-clause-grows
returns-in_err-entries-clause-grows c = Grows-trans (design_view c.args.design.now) _ _ _ c.idle_inputs.ensures.grows c.next_entries.ensures.grows

pub returns-clause-sorted : goal.returns-clause-sorted
returns-clause-sorted c =
    let idle : SymState = record { entries = c.args.state.entries; inputs = c.in_ok-inputs.inputs } in
    let before : StateHasSorts (design_view c.args.design.now).pipe c.idle_inputs.new.graph idle = idle_sorted (design_view c.args.design.now) _ _ c.args.state idle c.requires.sorted c.idle_inputs.ensures.grows c.in_ok-inputs.ensures.idle refl in
    flush_sorted (design_view c.args.design.now) _ _ idle _ before c.next_entries.ensures.grows c.in_ok-entries.ensures.sorted refl

pub returns-clause-denotes : goal.returns-clause-denotes
returns-clause-denotes c =
    let idle : SymState = record { entries = c.args.state.entries; inputs = c.in_ok-inputs.inputs } in
    let before : StateHasSorts (design_view c.args.design.now).pipe c.idle_inputs.new.graph idle = idle_sorted (design_view c.args.design.now) _ _ c.args.state idle c.requires.sorted c.idle_inputs.ensures.grows c.in_ok-inputs.ensures.idle refl in
    flush_denotes (design_view c.args.design.now) _ _ _ c.args.state idle _ c.requires.sorted c.idle_inputs.ensures.grows c.in_ok-inputs.ensures.idle refl before c.next_entries.ensures.grows c.in_ok-entries.ensures.denotes refl

pub returns-clause-grows : goal.returns-clause-grows
returns-clause-grows c = Grows-trans (design_view c.args.design.now) _ _ _ c.idle_inputs.ensures.grows c.next_entries.ensures.grows

pub returns-clause-made : goal.returns-clause-made
returns-clause-made c =
    let d = design_view c.args.design.now in
    record {
      inputs = over-Extends _ _ c.next_entries.ensures.grows.extends d c.args.state d.pipe.locals (idles d.pipe.ports) _ c.in_ok-inputs.ensures.made;
      entries = c.in_ok-entries.ensures.made;
    }
