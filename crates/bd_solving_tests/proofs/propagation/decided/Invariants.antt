use Rattle.bd_watch.specs.Watch.{IsWatching}
use Rattle.bd_solving_tests.proofs.propagation.decided.Given as goal

abbrev pub invariant-loop-word : goal.invariant-loop-word
invariant-loop-word l = IsWatching l.watch
