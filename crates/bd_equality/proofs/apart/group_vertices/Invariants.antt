use Rattle.bd_equality.proofs.Groups.{ListsSome}
use Rattle.bd_equality.proofs.apart.group_vertices.Given as goal

abbrev pub invariant-loop-function : goal.invariant-loop-function
invariant-loop-function l = ListsSome l.constants l.function-items l.function-index l.vertices.items
