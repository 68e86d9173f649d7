use Rattle.std.proofs.Common.{take}
use Rattle.std.specs.List.{AllByRecursion}
use Rattle.bd_syntax.proofs.Completions.{IsOther}
use Rattle.bd_syntax.proofs.completion.split_abstracts.Given as goal

abbrev pub invariant-loop-i : goal.invariant-loop-i
invariant-loop-i l = AllByRecursion IsOther (take l.i l.parts)
