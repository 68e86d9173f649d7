use Rattle.std.proofs.Common.{◌≡◌, ◌+◌, ◌≤◌, ◌++◌, suc, length, map, ap, ◌∙◌, arith}
use Rattle.std.proofs.lemmas.List.{take_all}
use Rattle.bd_model.specs.declared.design.Port.{Port}
use Rattle.bd_symbolic.specs.Widened.{repeated}
use Rattle.bd_lift.proofs.Repeating.{repeated-push}
use Rattle.bd_lift.proofs.build.input_sorts.Goals as goal

pub loop-preserved : goal.loop-preserved
loop-preserved c =
    let sorts = map (λ (p : Port). p.sort) c.args.ports.now in
    let past : length c.args.ports.now ≤ c.loop-port.port-index = omega (arith, c.loop-port-test.false) in
    let next : suc c.loop.counter ≡ c.loop.counter + 1 = omega arith in
    c.loop-port.invariant
    ∙ ap (λ l. repeated c.loop.counter sorts ++ map (λ (p : Port). p.sort) l) (take_all c.loop-port.port-index c.args.ports.now past)
    ∙ repeated-push c.loop.counter sorts
    ∙ ap (λ n. repeated n sorts) next
