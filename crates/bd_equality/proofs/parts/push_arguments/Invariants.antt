use Rattle.std.proofs.Common.{◌≡◌, ◌++◌, map, take}
use Rattle.bd_equality.specs.declared.wanted.Visit.TheVariants.{Enter}
use Rattle.bd_equality.specs.inner.Split.{equations}
use Rattle.bd_equality.proofs.parts.push_arguments.Given as goal

abbrev pub invariant-loop-index : goal.invariant-loop-index
invariant-loop-index l = l.visits.items ≡ l.fn.visits.items ++ map Enter (equations (take l.index l.left) (take l.index l.right))
