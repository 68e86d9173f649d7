use Rattle.std.proofs.Common.{sym, ◌∙◌, subst, option_copied}
use Rattle.bd_equality.specs.inner.Split.{IsChosen}
use Rattle.bd_equality.proofs.Rowing.{apart_of, row_way_is}
use Rattle.bd_equality.proofs.ways.equation_way.Goals as goal

pub returns-in-Some-row_way : goal.returns-in-Some-row_way
returns-in-Some-row_way c =
    let nodes = c.args.flat.now.graph in
    let syms = c.args.flat.now.syms in
    let marked = option_copied c.args.marked in
    row_way_is nodes syms marked c.args.left c.args.right c.in-Some-row_way.way
    (apart_of nodes syms marked c.args.left c.args.right c.in-Some.control c.requires.pair.ordered (sym c.eq.ensures ∙ c.if-eq.false)
    (subst (λ o. IsChosen nodes c.args.left c.args.right o) c.in-Some.is c.in_ok-control.ensures)) c.in-Some-row_way.ensures
