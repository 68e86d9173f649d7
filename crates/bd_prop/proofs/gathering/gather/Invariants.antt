use Rattle.bd_prop.specs.Inside.{is_inside}
use Rattle.bd_prop.proofs.Gatherings.{IsGathering}
use Rattle.bd_prop.proofs.gathering.gather.Given as goal

abbrev pub invariant-loop-id : goal.invariant-loop-id
invariant-loop-id l = IsGathering l.prop (is_inside l.prop l.root) l.id l.new l.entries.items
