use Rattle.std.proofs.Common.{◌-◌, length}
use Rattle.bd_tseitin.proofs.definition.+branch.Given as goal

abbrev pub decreases-branch : goal.decreases-branch
decreases-branch l = length l.items.now - l.from
