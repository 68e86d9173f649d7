use Rattle.std.proofs.Common.{◌≡◌, ◌++◌, ◌-◌}
use Rattle.bd_case.specs.Content.{inputs_from}
use Rattle.bd_case.proofs.whole.input_lists.Given as goal

abbrev pub invariant-loop-cycle : goal.invariant-loop-cycle
invariant-loop-cycle l = l.lists.items ++ inputs_from l.cycle (l.cycles - l.cycle) l.tables ≡ inputs_from 0 l.cycles l.tables
