use Rattle.std.proofs.Common.{◌≡◌, ◌<◌, ◌≤◌, length, get_or, List, refl, subst, arith}
use Rattle.std.specs.Prelude.{IsTrue}
use Rattle.std.proofs.lemmas.Bool.{both_ways}
use Rattle.bd_model.specs.DesignView.{design_view}
use Rattle.bd_model.specs.declared.table.Scalar.{Scalar}
use Rattle.bd_sim.proofs.Trails.{IsNext, cycle_iff, follow, breaks_first}
use Rattle.bd_sim.proofs.trail.judge_trail.Goals as goal

pub overflow_add-cycle : goal.overflow_add-cycle
overflow_add-cycle c =
    let within : c.loop-inputs.inputs-index < length c.args.trail.now.inputs = subst (λ (xs : List (List Scalar)). c.loop-inputs.inputs-index < length xs) c.as_slice-inputs-items.ensures c.loop-inputs-test.true in
    omega (arith, within, c.requires.short, c.loop-inputs.invariant.count)

pub returns-then-not-branch-2 : goal.returns-then-not-branch-2
returns-then-not-branch-2 c =
    let d = design_view c.args.design.now in
    let t = c.args.trail.now in
    let n = c.loop-inputs.inputs-index in
    let inputs = c.inputs-item.result in
    let within : n < length t.inputs = subst (λ (xs : List (List Scalar)). n < length xs) c.as_slice-inputs-items.ensures c.loop-inputs-test.true in
    let given : inputs ≡ get_or t.inputs n inputs = subst (λ (xs : List (List Scalar)). inputs ≡ get_or xs n inputs) c.as_slice-inputs-items.ensures c.inputs-item.is in
    let is : IsNext d t n c.loop-inputs.state inputs c.in_ok-next.next c.in_ok-after.after = record { within = within; given = given; moved = c.in_ok-next.ensures; stands = c.in_ok-after.ensures } in
    let told = cycle_iff d t n c.loop-inputs.cycle c.loop-inputs.state c.loop-inputs.before inputs _ _ _ c.loop-inputs.invariant is c.in_ok-steps_join.ensures in
    (subst IsTrue c.in_ok-meets_invariant.ensures c.if-not-branch.false, breaks_first d t n c.loop-inputs.cycle _ c.loop-inputs.state c.loop-inputs.before c.loop-inputs.invariant within refl (λ h. both_ways _ c.if-not-branch-2.true (told.1 h)))

pub loop-inputs-preserved : goal.loop-inputs-preserved
loop-inputs-preserved c =
    let d = design_view c.args.design.now in
    let t = c.args.trail.now in
    let n = c.loop-inputs.inputs-index in
    let inputs = c.inputs-item.result in
    let within : n < length t.inputs = subst (λ (xs : List (List Scalar)). n < length xs) c.as_slice-inputs-items.ensures c.loop-inputs-test.true in
    let given : inputs ≡ get_or t.inputs n inputs = subst (λ (xs : List (List Scalar)). inputs ≡ get_or xs n inputs) c.as_slice-inputs-items.ensures c.inputs-item.is in
    let is : IsNext d t n c.loop-inputs.state inputs c.in_ok-next.next c.in_ok-after.after = record { within = within; given = given; moved = c.in_ok-next.ensures; stands = c.in_ok-after.ensures } in
    let told = cycle_iff d t n c.loop-inputs.cycle c.loop-inputs.state c.loop-inputs.before inputs _ _ _ c.loop-inputs.invariant is c.in_ok-steps_join.ensures in
    follow d t n c.loop-inputs.cycle _ c.loop-inputs.state c.loop-inputs.before inputs _ _ c.loop-inputs.invariant is refl (told.0 c.if-not-branch-2.false)

pub returns : goal.returns
returns c =
    let past : length c.args.trail.now.inputs ≤ c.loop-inputs.inputs-index = subst (λ (xs : List (List Scalar)). length xs ≤ c.loop-inputs.inputs-index) c.as_slice-inputs-items.ensures c.loop-inputs-test.false in
    (subst IsTrue c.in_ok-meets_invariant.ensures c.if-not-branch.false, λ n within. c.loop-inputs.invariant.commute n (omega arith))
