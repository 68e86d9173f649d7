use Rattle.std.proofs.Common.{◌≡◌, map, take}
use Rattle.bd_terms.specs.Denotation.{values}
use Rattle.bd_function.specs.Flat.{under}
use Rattle.bd_function.specs.Values.{scalar_of}
use Rattle.bd_function.specs.inner.Scalars.{as_denoted}
use Rattle.bd_function.proofs.symbol_tables.scalars.Given as goal

abbrev pub invariant-loop-index : goal.invariant-loop-index
invariant-loop-index l = map as_denoted l.done.items ≡ values (under (scalar_of l.values)) (take l.index l.flat.graph)
