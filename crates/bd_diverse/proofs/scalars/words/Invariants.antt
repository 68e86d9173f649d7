use Rattle.std.proofs.Common.{◌≡◌, map, take}
use Rattle.bd_function.specs.inner.Scalars.{word_at}
use Rattle.bd_diverse.proofs.scalars.words.Given as goal

abbrev pub invariant-loop-id : goal.invariant-loop-id
invariant-loop-id l = l.words.items ≡ map (word_at l.done) (take l.id-index l.ids)
