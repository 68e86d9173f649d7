use Rattle.bd_equality.proofs.Finishing.{never_of}
use Rattle.bd_equality.proofs.encoding.never.Goals as goal

pub returns : goal.returns
returns c =
    never_of c.args.prop.now c.mk_true.new.self c.mk_not.new.self c.in_ok-truth.truth c.mk_not.result c.in_ok-truth.ensures.grows c.in_ok-truth.ensures.form c.in_ok-truth.ensures.truth
    c.mk_not.ensures.grows c.mk_not.ensures.within c.mk_not.ensures.form c.mk_not.ensures.truth
