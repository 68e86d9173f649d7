use Rattle.std.proofs.Common.{◌≡◌, drop}
use Rattle.bd_diagram.specs.Differs.{differing_after}
use Rattle.bd_diagram.proofs.difference.note_differing.Given as goal

abbrev pub invariant-loop-row : goal.invariant-loop-row
invariant-loop-row l =
    differing_after l.first l.second l.addresses.items (drop l.row-index l.rows) ≡ differing_after l.first l.second l.fn.addresses.items l.rows
