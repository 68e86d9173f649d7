use Rattle.std.proofs.Common.{arith}
use Rattle.bd_case.specs.Text.{entry_line}
use Rattle.bd_case.proofs.TwoLists.{symbols_end}
use Rattle.bd_case.proofs.write.push_symbols.Goals as goal

pub returns-clause-text : goal.returns-clause-text
returns-clause-text c =
    symbols_end entry_line c.loop-f.out.items c.args.version c.args.distinct.now c.loop-f.f-counter c.args.symbols.now c.args.tables.now _
    (omega (arith, c.min-f-end.ensures, c.loop-f-test.false)) c.loop-f.invariant.text
