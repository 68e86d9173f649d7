use Rattle.std.proofs.Common.{take, length}
use Rattle.bd_function.specs.Values.{held}
use Rattle.bd_lift.specs.inner.Steps.{AreDecodedSo, word_by}
use Rattle.bd_lift.proofs.decode.decode_all.Given as goal

abbrev pub invariant-loop-index : goal.invariant-loop-index
invariant-loop-index l = AreDecodedSo (take l.index l.flat.graph) (word_by l.ends.entries (length l.vertices)) l.values (held l.decoded)
