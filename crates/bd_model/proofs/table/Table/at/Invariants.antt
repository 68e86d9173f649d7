use Rattle.std.proofs.Common.{◌≡◌, drop}
use Rattle.bd_model.specs.Table.{at, row_value}
use Rattle.bd_model.proofs.table.Table.at.Given as goal

abbrev pub invariant-loop-row : goal.invariant-loop-row
invariant-loop-row l = row_value (drop l.row-index l.row-items) l.args l.self.default ≡ at l.self l.args
