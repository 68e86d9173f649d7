use Rattle.std.proofs.Common.{take}
use Rattle.std.specs.List.{All}
use Rattle.bd_slice.specs.Reasons.{RestsAmong}
use Rattle.bd_slice.specs.inner.Collected.{IsFront}
use Rattle.bd_slice.proofs.reason.rest_on.Given as goal

abbrev pub invariant-loop-fact : goal.invariant-loop-fact
invariant-loop-fact l = record {
  front : IsFront l.fn.set.keys l.set.keys;
  among : All (RestsAmong l.set.keys) (take l.fact-index l.facts);
}
