use Rattle.std.proofs.Common.{◌+◌, sym, subst, arith}
use Rattle.bd_equality.proofs.Groups.{JoinsSome, JoinsSome-start, JoinsSome-more, JoinsSome-pass, JoinsSome-end}
use Rattle.bd_equality.proofs.apart.join.Goals as goal
use Rattle.bd_equality.proofs.apart.join.Goals.{then-from-to+in_ok-insert, else-from-to}

pub loop-to-init : goal.loop-to-init
loop-to-init c = JoinsSome-start c.args.from c.args.vertices.now c.args.pairs.now

pub loop-to-preserved : goal.loop-to-preserved
loop-to-preserved c =
    elim c.if-from-to.branch [
      | then-from-to+in_ok-insert w ↦
          subst (JoinsSome c.args.from c.args.vertices.now (c.loop-to.to-index + 1) c.args.pairs.now) (sym w.pairs-is)
          (JoinsSome-more c.args.from c.args.vertices.now c.loop-to.to-index c.args.pairs.now c.loop-to.pairs w.insert.new.self c.loop-to.invariant (omega arith) (omega arith) w.in_ok-insert.ensures)
      | else-from-to w ↦
          subst (JoinsSome c.args.from c.args.vertices.now (c.loop-to.to-index + 1) c.args.pairs.now) (sym w.pairs-is)
          (JoinsSome-pass c.args.from c.args.vertices.now c.loop-to.to-index c.args.pairs.now c.loop-to.pairs c.loop-to.invariant (omega arith))
    ]

pub returns : goal.returns
returns c = JoinsSome-end c.args.from c.args.vertices.now c.loop-to.to-index c.args.pairs.now c.loop-to.pairs c.loop-to.invariant (omega arith)
