use Rattle.std.proofs.Common.{◌+◌, ◌*◌, arith}
use Rattle.bd_model.specs.DesignView.{design_view}
use Rattle.bd_symbolic.specs.Widened.{widened}
use Rattle.bd_symbolic.proofs.Widening.{GrowsWithin-own, KeepsDesign-fewer, KeepsDesign-own}
use Rattle.bd_goal.specs.Formula.{address_count}
use Rattle.bd_goal.proofs.Known.{KeepsAddresses-Known, KeepsDesign-Known, Known-none, Known-trans, Known-within}
use Rattle.bd_goal.proofs.Making.{run-started}
use Rattle.bd_goal.proofs.Running.{Known-wider, addresses-fewer, running-claimed, running-made, running-more}
use Rattle.bd_goal.proofs.bounded.right_run.Goals as goal

pub no_cycle-requires-clause-keeps : goal.no_cycle-requires-clause-keeps
no_cycle-requires-clause-keeps c =
    let d = design_view c.args.design.now in
    KeepsDesign-own d c.args.cycles _ c.requires.some c.requires.keeps

pub returns-in_err-inside-clause-grows : goal.returns-in_err-inside-clause-grows
returns-in_err-inside-clause-grows c =
    let d = design_view c.args.design.now in
    Known-within (widened d c.args.cycles) (c.args.cycles * address_count d) _ _ (GrowsWithin-own d c.args.cycles _ _ c.requires.some c.no_cycle.ensures.grows)

pub loop-cycle-init : goal.loop-cycle-init
loop-cycle-init c =
    let d = design_view c.args.design.now in
    record { grows = Known-within (widened d c.args.cycles) (c.args.cycles * address_count d) _ _ (GrowsWithin-own d c.args.cycles _ _ c.requires.some c.no_cycle.ensures.grows); inside_truth = c.in_ok-inside.ensures.starts.truth; inside_says = c.in_ok-inside.ensures.starts.says; run_is = c.in_ok-inside.ensures.starts.running; made = run-started d c.args.cycles _ _ _ _ _ c.in_ok-inside.ensures.made }

pub one_cycle_more-requires-clause-keeps : goal.one_cycle_more-requires-clause-keeps
one_cycle_more-requires-clause-keeps c =
    let d = design_view c.args.design.now in
    KeepsDesign-fewer d (c.loop-cycle.cycle + 1) c.args.cycles _ (omega (arith, c.loop-cycle-test.true)) (KeepsDesign-Known (widened d c.args.cycles) (c.args.cycles * address_count d) _ _ c.loop-cycle.invariant.grows c.requires.keeps)

pub one_cycle_more-requires-clause-words : goal.one_cycle_more-requires-clause-words
one_cycle_more-requires-clause-words c =
    let d = design_view c.args.design.now in
    KeepsAddresses-Known (widened d c.args.cycles) (c.args.cycles * address_count d) _ _ c.loop-cycle.invariant.grows c.requires.words

pub one_cycle_more-requires-clause-run : goal.one_cycle_more-requires-clause-run
one_cycle_more-requires-clause-run c =
    let d = design_view c.args.design.now in
    c.loop-cycle.invariant.run_is

pub returns-in_err-run-clause-grows : goal.returns-in_err-run-clause-grows
returns-in_err-run-clause-grows c =
    let d = design_view c.args.design.now in
    Known-trans (widened d c.args.cycles) (c.args.cycles * address_count d) _ _ _ c.loop-cycle.invariant.grows (Known-wider d (c.loop-cycle.cycle + 1) c.args.cycles _ _ _ _ (omega (arith, c.loop-cycle-test.true)) (addresses-fewer d (c.loop-cycle.cycle + 1) c.args.cycles (omega (arith, c.loop-cycle-test.true))) c.one_cycle_more.ensures.grows)

pub loop-cycle-preserved : goal.loop-cycle-preserved
loop-cycle-preserved c =
    let d = design_view c.args.design.now in
    running-more d c.args.cycles _ _ _ _ _ _ c.loop-cycle.cycle (omega (arith, c.loop-cycle-test.true)) c.loop-cycle.invariant c.in_ok-run.ensures.run c.one_cycle_more.ensures.grows
    (Known-trans (widened d c.args.cycles) (c.args.cycles * address_count d) _ _ _ c.loop-cycle.invariant.grows (Known-wider d (c.loop-cycle.cycle + 1) c.args.cycles _ _ _ _ (omega (arith, c.loop-cycle-test.true)) (addresses-fewer d (c.loop-cycle.cycle + 1) c.args.cycles (omega (arith, c.loop-cycle-test.true))) c.one_cycle_more.ensures.grows)) c.in_ok-run.ensures.made

pub implies-requires-clause-first : goal.implies-requires-clause-first
implies-requires-clause-first c =
    let d = design_view c.args.design.now in
    c.loop-cycle.invariant.inside_truth

pub implies-requires-clause-second : goal.implies-requires-clause-second
implies-requires-clause-second c =
    let d = design_view c.args.design.now in
    c.loop-cycle.invariant.run_is.truth

pub returns-clause-denotes : goal.returns-clause-denotes
returns-clause-denotes c =
    let d = design_view c.args.design.now in
    running-claimed d c.args.cycles _ _ _ _ _ c.loop-cycle.cycle _ c.requires.some (omega (arith, c.loop-cycle-test.false, c.loop-cycle.auto.cycle-end)) c.loop-cycle.invariant c.implies.ensures.denotes

pub returns-clause-grows : goal.returns-clause-grows
returns-clause-grows c =
    let d = design_view c.args.design.now in
    Known-trans (widened d c.args.cycles) (c.args.cycles * address_count d) _ _ _ c.loop-cycle.invariant.grows (Known-none (widened d c.args.cycles) (c.args.cycles * address_count d) _ _ c.implies.ensures.extends c.implies.ensures.uses)

pub returns-clause-made : goal.returns-clause-made
returns-clause-made c =
    running-made (design_view c.args.design.now) c.args.cycles _ _ _ _ _ c.loop-cycle.cycle c.implies.result c.requires.some (omega (arith, c.loop-cycle-test.false, c.loop-cycle.auto.cycle-end)) c.loop-cycle.invariant c.implies.ensures.extends c.implies.ensures.made
