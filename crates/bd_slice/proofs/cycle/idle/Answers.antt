use Rattle.std.proofs.Common.{◌≡◌, ◌<◌, ◌≤◌, [], length, map, arith}
use Rattle.std.proofs.lemmas.List.{take_all}
use Rattle.std.proofs.lemmas.Simd.{map-map}
use Rattle.bd_model.specs.ExprView.{expr_view}
use Rattle.bd_model.specs.DesignView.{PortView, local_view, port_view, machine_view}
use Rattle.bd_model.specs.Cycle.{idle_inputs}
use Rattle.bd_model.specs.Value.{value_of, scalar_of, env_of}
use Rattle.bd_model.specs.declared.design.Port.{Port}
use Rattle.bd_slice.specs.inner.Followed.{Follows}
use Rattle.bd_slice.proofs.Cycles.{zip_item}
use Rattle.bd_slice.proofs.cycle.idle.Goals as goal

pub returns-clause-grows : goal.returns-clause-grows
returns-clause-grows c = λ d o h. c.in_ok-names.ensures.grows d o (c.loop-port.invariant.grows d o h)

pub loop-port-preserved : goal.loop-port-preserved
loop-port-preserved c =
    let case = c.in_ok-names.names.case.now in
    let within : c.loop-port.port-index < length c.as_slice-port-items.result.now = omega arith in
    record {
      grows = λ d o h. c.loop-port.invariant.grows d o (c.in_ok-trace_scalar.ensures.grows d o h);
      follows = λ o env h f.
          zip_item (Follows o) _ _ (λ (p : Port). scalar_of (value_of env (expr_view p.idle))) _ _ c.port-item.result _ within c.port-item.is
          (c.loop-port.invariant.follows o env (c.in_ok-trace_scalar.ensures.grows case o h) f) c.in_ok-push.ensures.items (c.in_ok-trace_scalar.ensures.follows o env h f);
    }

pub returns-clause-follows : goal.returns-clause-follows
returns-clause-follows c = λ o values h f.
    let machine = c.args.machine.now in
    let items = c.as_slice-port-items.result.now in
    let past : length items ≤ c.loop-port.port-index = omega arith in
    let all = take_all c.loop-port.port-index items past in
    let names = c.in_ok-names.ensures.follows o values [] (c.loop-port.invariant.grows c.args.case.now o h) f tt in
    let seen = c.loop-port.invariant.follows o _ (rw c.in_ok-names.ensures.case h) names in
    let whole : idle_inputs (machine_view machine) o.case.interp values
    ≡ map (λ (p : Port). scalar_of (value_of (env_of (map local_view machine.locals) o.case.interp values []) (expr_view p.idle))) machine.ports =
    map-map (λ (p : PortView). scalar_of (value_of (env_of (map local_view machine.locals) o.case.interp values []) p.idle)) port_view machine.ports in
    rw whole (rw (all, c.as_slice.ensures, c.as_slice-port-items.ensures) at seen)
