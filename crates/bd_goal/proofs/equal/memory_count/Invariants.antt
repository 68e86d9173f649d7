use Rattle.std.proofs.Common.{◌≡◌, count_by, take}
use Rattle.bd_model.specs.declared.design.Entry as entry
use Rattle.bd_goal.specs.Formula.{is_memory}
use Rattle.bd_goal.proofs.equal.memory_count.Given as goal

abbrev pub invariant-loop-entry : goal.invariant-loop-entry
invariant-loop-entry l = l.count ≡ count_by (λ (x : entry.Entry). is_memory x.sort) (take l.entry-index l.entry-items)
