use Rattle.bd_memory.proofs.forwarding.Forwarding.next.Given as goal

abbrev pub ghost-term : goal.ghost-term
ghost-term g a = g.root
