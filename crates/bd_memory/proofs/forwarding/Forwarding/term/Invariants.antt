use Rattle.bd_memory.proofs.forwarding.Forwarding.term.Given as goal

abbrev pub ghost-read : goal.ghost-read
ghost-read g a = g.root
