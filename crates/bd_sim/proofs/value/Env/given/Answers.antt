use Rattle.std.proofs.Common.{append-nil}
use Rattle.bd_sim.proofs.value.Env.given.Goals as goal

pub returns-clause-view : goal.returns-clause-view
returns-clause-view c = rw (c.new.ensures.items, append-nil)
