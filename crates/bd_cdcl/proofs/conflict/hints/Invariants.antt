use Rattle.std.proofs.Common.{◌≡◌, take}
use Rattle.bd_watch.specs.Levels.{reasons}
use Rattle.bd_cdcl.proofs.conflict.hints.Given as goal

abbrev pub invariant-loop-entry : goal.invariant-loop-entry
invariant-loop-entry l = l.hints ≡ reasons (take l.entry-index l.entry-items)
