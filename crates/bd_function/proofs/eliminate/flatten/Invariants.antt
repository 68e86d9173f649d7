use Rattle.std.proofs.Common.{◌≡◌, length}
use Rattle.bd_function.proofs.Flattening.{IsFlattened}
use Rattle.bd_function.proofs.Making.{IsMaking}
use Rattle.bd_function.proofs.eliminate.flatten.Given as goal

abbrev pub invariant-loop-index : goal.invariant-loop-index
invariant-loop-index l = (length l.ids.items ≡ l.index) × IsFlattened l.graph l.root l.ids.items l.taken × IsMaking l.graph l.root l.ids.items l.taken
