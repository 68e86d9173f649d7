use Rattle.std.proofs.Common.{option_copied}
use Rattle.bd_equality.proofs.Groups.{JoinsGroups}
use Rattle.bd_equality.proofs.apart.apart.Given as goal

abbrev pub invariant-loop-group : goal.invariant-loop-group
invariant-loop-group l = JoinsGroups l.flat.graph l.flat.syms l.group-items (option_copied l.marked) l.group-index l.pairs
