use Rattle.std.proofs.Common.{None}
use Rattle.bd_case.specs.Reading.{no_kind}
use Rattle.bd_case.specs.declared.kind.EntryKind.{EntryKind}
use Rattle.bd_case.proofs.Remaining.{map_step}
use Rattle.bd_case.proofs.read.nothing_given.Goals as goal

pub loop-kind-preserved : goal.loop-kind-preserved
loop-kind-preserved c =
    rw c.in_ok-push.ensures.items (map_step (λ (k : EntryKind). None) c.loop-kind.given.items c.args.kinds.now c.loop-kind.kind-index no_kind _ c.loop-kind-test.true c.loop-kind.invariant)
