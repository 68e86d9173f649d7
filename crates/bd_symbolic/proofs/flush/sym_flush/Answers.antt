use Rattle.std.proofs.Common.{◌≡◌, ◌≤◌, ◌-◌, ℕ, refl, sym, subst, arith}
use Rattle.bd_model.specs.DesignView.{design_view}
use Rattle.bd_terms.proofs.Growth.{Extends-self}
use Rattle.bd_symbolic.specs.Made.{AreFlushed}
use Rattle.bd_symbolic.specs.Symbolic.{HaveSorts}
use Rattle.bd_symbolic.specs.States.{port_sorts}
use Rattle.bd_symbolic.proofs.States.{HaveSorts-Extends}
use Rattle.bd_symbolic.proofs.Growing.{Grows-trans, KeepsDesign-Grows}
use Rattle.bd_symbolic.proofs.Cycles.{flushes_step}
use Rattle.bd_symbolic.proofs.flush.sym_flush.Goals as goal

none_over : (n k : ℕ) → n ≤ k → 0 ≡ n - k
none_over n k h = omega (arith, h)

pub flush_cycle-requires-clause-keeps : goal.flush_cycle-requires-clause-keeps
flush_cycle-requires-clause-keeps c = KeepsDesign-Grows (design_view c.args.design.now) _ _ c.loop-cycle.invariant.grows c.requires.keeps

pub returns-in_err-flushed-clause-grows : goal.returns-in_err-flushed-clause-grows
returns-in_err-flushed-clause-grows c = Grows-trans (design_view c.args.design.now) _ _ _ c.loop-cycle.invariant.grows c.flush_cycle.ensures.grows

pub loop-cycle-preserved : goal.loop-cycle-preserved
loop-cycle-preserved c =
    flushes_step (design_view c.args.design.now) _ _ _ c.args.state.now c.loop-cycle.flushed c.in_ok-flushed.flushed (c.args.design.now.flush - c.loop-cycle._cycle) _ (omega arith)
    c.loop-cycle.invariant c.flush_cycle.ensures.grows c.in_ok-flushed.ensures.sorted c.in_ok-flushed.ensures.denotes c.in_ok-flushed.ensures.made

pub returns-clause-sorted : goal.returns-clause-sorted
returns-clause-sorted c = record {
  entries = c.loop-cycle.invariant.sorted.entries;
  inputs = subst (λ ids. HaveSorts c.loop-cycle.graph ids (port_sorts (design_view c.args.design.now).pipe)) (sym c.in_ok-inputs.ensures)
      (HaveSorts-Extends _ _ c.loop-cycle.invariant.grows.extends c.args.state.now.inputs (port_sorts (design_view c.args.design.now).pipe) c.requires.sorted.inputs);
}

pub returns-clause-made : goal.returns-clause-made
returns-clause-made c =
    let d = design_view c.args.design.now in
    c.loop-cycle.invariant.made _ _ (Extends-self _) (subst (λ n. AreFlushed c.loop-cycle.graph d n c.loop-cycle.flushed c.loop-cycle.flushed.entries) (none_over d.flush c.loop-cycle._cycle (omega (arith, c.loop-cycle-test.false))) refl)
