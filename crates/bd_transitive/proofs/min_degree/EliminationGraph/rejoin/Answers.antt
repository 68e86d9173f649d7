use Rattle.std.proofs.Common.{refl}
use Rattle.bd_transitive.proofs.Queues.{sound-removed}
use Rattle.bd_transitive.proofs.min_degree.EliminationGraph.rejoin.Goals as goal

pub put-requires-clause-sound : goal.put-requires-clause-sound
put-requires-clause-sound c =
    sound-removed c.args.self.now (record { neighbours = c.remove.new.self; queue = c.args.self.now.queue }) c.args.vertex refl c.remove.ensures.updates.0 c.requires.sound
