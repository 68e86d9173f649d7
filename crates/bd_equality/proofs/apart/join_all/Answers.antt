use Rattle.std.proofs.Common.{arith}
use Rattle.bd_equality.proofs.Groups.{JoinsMost-start, JoinsMost-more, JoinsMost-end}
use Rattle.bd_equality.proofs.apart.join_all.Goals as goal

pub loop-from-init : goal.loop-from-init
loop-from-init c = JoinsMost-start c.args.vertices.now c.args.pairs.now

pub loop-from-preserved : goal.loop-from-preserved
loop-from-preserved c =
    JoinsMost-more c.args.vertices.now c.loop-from.from-index c.args.pairs.now c.loop-from.pairs c.join.new.pairs c.loop-from.invariant (omega arith) c.in_ok-join.ensures

pub returns : goal.returns
returns c = JoinsMost-end c.args.vertices.now c.loop-from.from-index c.args.pairs.now c.loop-from.pairs c.loop-from.invariant (omega arith)
