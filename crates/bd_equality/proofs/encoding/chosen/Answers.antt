use Rattle.std.proofs.Common.{subst}
use Rattle.bd_equality.specs.inner.Steps.{IsNode}
use Rattle.bd_equality.proofs.Finishing.{chosen_of}
use Rattle.bd_equality.proofs.encoding.chosen.Goals as goal

pub sides-yes-requires-clause-right : goal.sides-yes-requires-clause-right
sides-yes-requires-clause-right c = c.requires.pair.right.inside

pub returns : goal.returns
returns c = λ marked h.
    let nodes = c.args.flat.now.graph in
    let s = c.args.settled.now in
    chosen_of nodes c.sides-yes.ensures.graph c.args.flat.now.syms marked s c.args.prop.now c.mk_ite.new.self c.args.left c.args.right c.args.control c.node-control.result c.node-yes.result c.node-no.result c.mk_ite.result
    c.requires.way c.requires.control h c.node-control.ensures
    (subst (λ w. IsNode s w c.node-yes.result) c.sides-yes.ensures.yes c.node-yes.ensures) (subst (λ w. IsNode s w c.node-no.result) c.sides-yes.ensures.no c.node-no.ensures)
    c.mk_ite.ensures.grows c.mk_ite.ensures.within c.mk_ite.ensures.form c.mk_ite.ensures.truth
