use Rattle.std.proofs.Common.{◌≡◌, ◌∙◌, IfOk, ap, map, subst}
use Rattle.bd_model.specs.Cycle.{invariant}
use Rattle.bd_model.specs.DesignView.{design_view}
use Rattle.bd_model.specs.declared.design.Entry.{Entry}
use Rattle.bd_about.specs.Reset.{reset_state, zero_table, zero_tables, zero_value}
use Rattle.bd_about.proofs.reset.reset_meets.Goals as goal

pub returns : goal.returns
returns c =
    let d = design_view c.args.design.now in
    let interp : c.in_ok-interp.interp ≡ zero_tables d = c.in_ok-interp.ensures ∙ ap (map zero_table) c.as_slice.ensures in
    let state : c.in_ok-state.state ≡ reset_state d = c.in_ok-state.ensures ∙ ap (map (λ (e : Entry). zero_value e.sort)) c.as_slice-2.ensures in
    subst (λ i. IfOk c.meets_invariant.result (λ b. b ≡ invariant d i (reset_state d))) interp
    (subst (λ s. IfOk c.meets_invariant.result (λ b. b ≡ invariant d c.in_ok-interp.interp s)) state c.meets_invariant.ensures)
