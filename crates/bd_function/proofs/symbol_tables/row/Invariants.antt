use Rattle.std.proofs.Common.{◌≡◌, map, take}
use Rattle.bd_function.specs.inner.Scalars.{word_at}
use Rattle.bd_function.proofs.symbol_tables.row.Given as goal

abbrev pub invariant-loop-arg : goal.invariant-loop-arg
invariant-loop-arg l = l.args.items ≡ map (word_at l.done) (take l.arg-index l.arg-items)
