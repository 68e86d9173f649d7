use Rattle.std.proofs.Common.{◌≡◌, map, take}
use Rattle.bd_terms.specs.Renamed.{id_at}
use Rattle.bd_terms.proofs.id.Ids.renamed.Given as goal

abbrev pub invariant-loop-id : goal.invariant-loop-id
invariant-loop-id l = l.items.items ≡ map (id_at l.ids) (take l.id-index l.id-items)
