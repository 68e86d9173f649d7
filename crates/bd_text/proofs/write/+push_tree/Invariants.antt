use Rattle.std.proofs.Common.{◌≡◌, ◌++◌, drop}
use Rattle.bd_text.specs.View.{nodes_of_all}
use Rattle.bd_text.specs.Written.{written_parts}
use Rattle.bd_text.proofs.WrittenReads.{written_from}
use Rattle.bd_text.proofs.write.+push_tree.Given as goal

abbrev pub invariant-loop-i : goal.invariant-loop-i
invariant-loop-i l =
    l.out.items ++ written_from l.i (nodes_of_all (drop l.i l.part-items)) ≡ l.initial.out.items ++ written_parts (nodes_of_all l.part-items)
