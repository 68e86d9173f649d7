use Rattle.std.proofs.Common.{◌≡◌, ◌<◌, All, List, length, ap, sym, subst}
use Rattle.std.proofs.lemmas.Result.{IfOk-weaker}
use Rattle.bd_prop.specs.Gathered.{choice_part, entry_at, leaf_of, negation_part}
use Rattle.bd_prop.specs.Node.{named}
use Rattle.bd_prop.specs.declared.gathering.Part.{Part}
use Rattle.bd_prop.specs.inner.Gathering.{IsPartBelow}
use Rattle.bd_prop.proofs.Gatherings.{choice_part-below, negation_part-below}
use Rattle.bd_prop.proofs.gathering.part_of.Goals as goal

pub returns-in-Not-clause-below : goal.returns-in-Not-clause-below
returns-in-Not-clause-below c =
    let items = c.entry_of.result.now in
    let n = length c.args.prop.now in
    IfOk-weaker c.negation.result (λ part. part ≡ negation_part items (leaf_of items)) (IsPartBelow n)
    (λ part is. subst (IsPartBelow n) (sym is) (negation_part-below n items (subst (λ l. All (λ k. k < n) (named l)) (sym c.entry_of.ensures) (c.requires.low.each c.in-Not.a))))
    c.negation.ensures

pub returns-in_ok-control-in-Ite-clause-below : goal.returns-in_ok-control-in-Ite-clause-below
returns-in_ok-control-in-Ite-clause-below c =
    let first = c.entry_of-yes.result.now in
    let second = c.entry_of-no.result.now in
    let n = length c.placed_at.new.prop in
    let x = c.in_ok-control-in-Ite.control in
    IfOk-weaker c.choice.result (λ part. part ≡ choice_part c.args.inside x first second) (IsPartBelow n)
    (λ part is. subst (IsPartBelow n) (sym is) (choice_part-below n c.args.inside x first second c.in_ok-control-in-Ite.ensures.within
    (subst (λ l. All (λ k. k < n) (named l)) (sym c.entry_of-yes.ensures) (c.in_ok-control-in-Ite.ensures.low.each c.in-Ite.b))
    (subst (λ l. All (λ k. k < n) (named l)) (sym c.entry_of-no.ensures) (c.in_ok-control-in-Ite.ensures.low.each c.in-Ite.c))))
    c.choice.ensures
