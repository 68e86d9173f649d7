-- Each term is built over the new Ids, or is an application.
use Rattle.std.proofs.Common.{IfOk, refl, sym, ◌∙◌, subst}
use Rattle.bd_model.specs.declared.design.Sort.TheVariants as sort
use Rattle.bd_terms.specs.declared.node.Node.TheVariants.{App, Pred}
use Rattle.bd_terms.specs.Graph.{FitsSorts}
use Rattle.bd_function.specs.inner.Taken.{AddsApplication, IsPlain}
use Rattle.bd_function.proofs.Making.{MakesTerm-built, MakesTerm-renamed}
use Rattle.bd_function.proofs.Taking.{IsPlain-renamed, Steps-built, Steps-renamed, StepsTerm, node_uses-none}
use Rattle.bd_function.proofs.eliminate.take.Goals as goal

pub returns-in-App-clause-steps : goal.returns-in-App-clause-steps
returns-in-App-clause-steps c =
    Steps-renamed c.args.taken.now c.apply.new.taken c.args.ids.now c.args.node.now (App c.in-App.sym c.in-App.args) c.apply.result (sym c.in-App.is ∙ c.in_ok-renamed.ensures)
    (subst (λ l. IfOk c.apply.result (λ id. StepsTerm c.args.taken.now c.apply.new.taken (App c.in-App.sym l) id)) c.as_slice.ensures c.apply.ensures.steps)

pub returns-in-Pred-clause-steps : goal.returns-in-Pred-clause-steps
returns-in-Pred-clause-steps c =
    Steps-renamed c.args.taken.now c.apply-in-Pred.new.taken c.args.ids.now c.args.node.now (Pred c.in-Pred.sym c.in-Pred.args) c.apply-in-Pred.result (sym c.in-Pred.is ∙ c.in_ok-renamed.ensures)
    (subst (λ l. IfOk c.apply-in-Pred.result (λ id. StepsTerm c.args.taken.now c.apply-in-Pred.new.taken (Pred c.in-Pred.sym l) id)) c.as_slice-in-Pred.ensures c.apply-in-Pred.ensures.steps)

pub returns-in_default-clause-steps : goal.returns-in_default-clause-steps
returns-in_default-clause-steps c =
    let plain = subst IsPlain (sym c.in_ok-renamed.ensures) (IsPlain-renamed c.args.ids.now c.args.node.now c.requires.plain) in
    Steps-renamed c.args.taken.now _ c.args.ids.now c.args.node.now c.in_ok-renamed.renamed c.build.result c.in_ok-renamed.ensures
    (Steps-built c.args.taken.now _ c.in_ok-renamed.renamed c.build.result c.requires.taken plain
    (node_uses-none c.in_ok-renamed.renamed plain c.in_default.not-App c.in_default.not-Pred)
    c.build.ensures.denotes c.build.ensures.sorted c.build.ensures.graph c.build.ensures.extends c.build.ensures.uses refl refl refl)

pub returns-in-App-clause-made : goal.returns-in-App-clause-made
returns-in-App-clause-made c =
    MakesTerm-renamed c.args.taken.now c.apply.new.taken c.args.ids.now c.args.node.now (App c.in-App.sym c.in-App.args) c.apply.result (sym c.in-App.is ∙ c.in_ok-renamed.ensures)
    (subst (λ l. IfOk c.apply.result (AddsApplication c.args.taken.now c.apply.new.taken sort.Word c.in-App.sym l)) c.as_slice.ensures c.apply.ensures.made)

pub returns-in-Pred-clause-made : goal.returns-in-Pred-clause-made
returns-in-Pred-clause-made c =
    MakesTerm-renamed c.args.taken.now c.apply-in-Pred.new.taken c.args.ids.now c.args.node.now (Pred c.in-Pred.sym c.in-Pred.args) c.apply-in-Pred.result (sym c.in-Pred.is ∙ c.in_ok-renamed.ensures)
    (subst (λ l. IfOk c.apply-in-Pred.result (AddsApplication c.args.taken.now c.apply-in-Pred.new.taken sort.Bool c.in-Pred.sym l)) c.as_slice-in-Pred.ensures c.apply-in-Pred.ensures.made)

pub returns-in_default-clause-made : goal.returns-in_default-clause-made
returns-in_default-clause-made c =
    MakesTerm-renamed c.args.taken.now _ c.args.ids.now c.args.node.now c.in_ok-renamed.renamed c.build.result c.in_ok-renamed.ensures
    (MakesTerm-built c.args.taken.now _ c.in_ok-renamed.renamed c.build.result c.in_default.not-App c.in_default.not-Pred
    (subst (FitsSorts c.args.taken.now.graph) (sym c.in_ok-renamed.ensures) c.requires.fits) c.build.ensures.gives refl refl)
