use Rattle.std.proofs.Common.{option_copied}
use Rattle.bd_equality.proofs.Vertices.{HasVertices}
use Rattle.bd_equality.proofs.apart.vertices.Given as goal

abbrev pub invariant-loop-index : goal.invariant-loop-index
invariant-loop-index l = HasVertices l.flat.graph (option_copied l.marked) l.index l.vertices
