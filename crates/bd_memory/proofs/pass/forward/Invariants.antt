use Rattle.bd_memory.proofs.pass.forward.Given as goal

abbrev pub ghost-forward_marked : goal.ghost-forward_marked
ghost-forward_marked a = a.root
