use Rattle.bd_watch.specs.Levels.{literals}
use Rattle.bd_watch.proofs.Values.{free_test, taken_test}
use Rattle.bd_watch.proofs.trail.AssignmentTrail.is_free.Goals as goal

pub returns-then-not-is_true : goal.returns-then-not-is_true
returns-then-not-is_true c = free_test (literals c.args.self.now.entries) c.args.var c.new-lit.result c.is_true.result c.is_false.result c.new-lit.ensures c.is_true.ensures c.is_false.ensures c.if-not-is_true.true

pub returns-else-not-is_true : goal.returns-else-not-is_true
returns-else-not-is_true c = taken_test (literals c.args.self.now.entries) c.args.var c.new-lit.result c.is_true.result c.new-lit.ensures c.is_true.ensures c.if-not-is_true.false
