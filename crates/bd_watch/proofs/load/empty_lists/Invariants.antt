use Rattle.std.proofs.Common.{◌≡◌, [], replicate}
use Rattle.bd_watch.proofs.load.empty_lists.Given as goal

abbrev pub invariant-loop : goal.invariant-loop
invariant-loop l = l.lists.items ≡ replicate l.counter []
