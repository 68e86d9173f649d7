use Rattle.bd_memory.proofs.Next.{IsPassed}
use Rattle.bd_memory.proofs.pass.forward_marked.Given as goal

abbrev pub ghost-next : goal.ghost-next
ghost-next g a = g.top

abbrev pub invariant-loop-index : goal.invariant-loop-index
invariant-loop-index g l = IsPassed l.graph g.top l.done l.index
