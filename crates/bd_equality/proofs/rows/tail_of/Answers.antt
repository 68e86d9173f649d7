use Rattle.std.proofs.Common.{◌∷◌, [], Some, slice_get, ap, sym, ◌∙◌, arith}
use Rattle.std.specs.Option.{option_flatten}
use Rattle.bd_list.proofs.Membership.{first}
use Rattle.bd_terms.specs.declared.node.Node.TheVariants.{Ite}
use Rattle.bd_terms.proofs.Reaching.{children-below}
use Rattle.bd_equality.proofs.Passing.{lent, tail_there}
use Rattle.bd_equality.proofs.rows.tail_of.Goals as goal

pub longer-requires : goal.longer-requires
longer-requires c =
    let node = Ite c.in-Ite.control c.in-Ite.yes c.in-Ite.no in
    let lt = children-below c.args.flat.now.graph c.node.ensures.graph c.args.id node (c.node.ensures.node ∙ ap Some c.in-Ite.is) c.in-Ite.control (first c.in-Ite.control (c.in-Ite.yes ∷ c.in-Ite.no ∷ [])) in
    omega (arith, lt, c.requires)

pub returns-in_ok-tail-in-Ite : goal.returns-in_ok-tail-in-Ite
returns-in_ok-tail-in-Ite c = λ marked symbols tails more e.
    c.longer.ensures marked c.args.id c.in-Ite.no (c.node.ensures.node ∙ ap Some c.in-Ite.is) (tails.each c.in-Ite.no c.in_ok-tail-in-Ite.tail (tail_there c.args.tails.now c.in-Ite.no c.in_ok-tail-in-Ite.tail
    (ap option_flatten (ap (slice_get c.args.tails.now) (sym c.index.ensures) ∙ lent _ c.args.tails.now c.index.result c.get-in-Ite.result c.get-in-Ite.ensures.lookup.1 c.get-in-Ite.ensures.lookup.3 ∙ sym c.copied-in-Ite.ensures)
    ∙ sym c.flatten.ensures ∙ c.in_ok-tail-in-Ite.was))) more e
