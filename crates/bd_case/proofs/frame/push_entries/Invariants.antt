use Rattle.std.proofs.Common.{◌≡◌, ◌++◌, map, drop}
use Rattle.bd_case.specs.Kinds.{entry_kind}
use Rattle.bd_case.proofs.frame.push_entries.Given as goal

abbrev pub invariant-loop-entry : goal.invariant-loop-entry
invariant-loop-entry l = l.kinds.items ++ map entry_kind (drop l.entry-index l.entries) ≡ l.initial.kinds.items ++ map entry_kind l.entries
