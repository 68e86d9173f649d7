use Rattle.std.proofs.Common.{◌-◌, List, [], ℕ, Bor, map, sym, arith}
use Rattle.std.proofs.lemmas.List.{get_or-map, length-map}
use Rattle.bd_case.proofs.Remaining.{place_step}
use Rattle.bd_case.proofs.frame.places.Goals as goal

pub loop-at-preserved : goal.loop-at-preserved
loop-at-preserved c =
    let names = c.args.names.now in
    let text = λ (b : Bor (List ℕ)). b.now in
    let within = c.loop-at.invariant.within in
    let positive = c.loop-at-test.true in
    record {
      within = omega arith;
      found = λ q. place_step (map text names) c.loop-at.at _ q.now _ _ (omega arith) (omega (arith, length-map names text))
          (sym (get_or-map text names (c.loop-at.at - 1) _ [] (omega arith))) (c.loop-at.invariant.found q) (c.in_ok-insert.ensures.updates.0 q);
    }
