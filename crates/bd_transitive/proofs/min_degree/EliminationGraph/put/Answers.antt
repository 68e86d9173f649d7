use Rattle.std.proofs.Common.{◌≡◌, true, subst}
use Rattle.std.specs.BTreeSet.{contains}
use Rattle.std.specs.Ordering.{is_eq}
use Rattle.bd_transitive.specs.inner.EliminationGraph.{entry_cmp}
use Rattle.bd_transitive.proofs.Queues.{sound-put}
use Rattle.bd_transitive.proofs.min_degree.EliminationGraph.put.Goals as goal

pub returns-clause-sound : goal.returns-clause-sound
returns-clause-sound c =
    sound-put c.args.self.now (record { neighbours = c.insert-2.new.self; queue = c.insert.new.self }) c.args.vertex c.args.own
    (λ k. is_eq (entry_cmp (c.len.result, c.args.vertex) k)) c.in_ok-insert-2.ensures.updates.0 c.in_ok-insert.ensures.updates.0
    (subst (λ n. contains entry_cmp c.insert.new.self (n, c.args.vertex) ≡ true) c.len.ensures.len c.in_ok-insert.ensures.updates.1)
    c.requires.distinct c.requires.sound
