use Rattle.bd_prop.proofs.Gatherings.{IsRenaming}
use Rattle.bd_prop.proofs.gathering.renamed.Given as goal

abbrev pub invariant-loop-item : goal.invariant-loop-item
invariant-loop-item l = IsRenaming l.initial.prop l.prop l.entries l.items l.item-index l.new.items
