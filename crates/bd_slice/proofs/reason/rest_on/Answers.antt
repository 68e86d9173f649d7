use Rattle.std.proofs.Common.{arith}
use Rattle.bd_slice.proofs.Collecting.{front_further, front_same, nothing_yet, rests_all, rests_more}
use Rattle.bd_slice.proofs.reason.rest_on.Goals as goal

pub loop-fact-init : goal.loop-fact-init
loop-fact-init c = record { front = front_same _; among = nothing_yet _ }

pub loop-fact-preserved : goal.loop-fact-preserved
loop-fact-preserved c = record {
  front = front_further _ _ _ c.loop-fact.invariant.front c.in_ok-put_named.ensures.front;
  among = rests_more _ _ c.args.facts.now c.loop-fact.fact-index c.fact-item.result (omega arith) c.fact-item.is c.loop-fact.invariant.among c.in_ok-put_named.ensures.front c.in_ok-put_named.ensures.among;
}

pub returns-clause-among : goal.returns-clause-among
returns-clause-among c = rests_all _ c.args.facts.now c.loop-fact.fact-index (omega arith) c.loop-fact.invariant.among
