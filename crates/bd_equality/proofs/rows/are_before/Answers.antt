use Rattle.std.proofs.Common.{◌<◌, length, arith}
use Rattle.std.proofs.lemmas.Option.{slice_get_within}
use Rattle.bd_equality.proofs.Passing.{before_of}
use Rattle.bd_equality.proofs.rows.are_before.Goals as goal

pub returns : goal.returns
returns c = λ _.
    before_of c.args.args.now c.args.id (λ k x at. let lt : k < length c.args.args.now = slice_get_within c.args.args.now k x at in c.loop-arg.invariant k x (omega (arith, lt)) at)
