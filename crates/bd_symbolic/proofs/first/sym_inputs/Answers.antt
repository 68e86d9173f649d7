use Rattle.std.proofs.Common.{◌*◌, length}
use Rattle.std.proofs.lemmas.Result.{IfOk-weaker}
use Rattle.bd_model.specs.DesignView.{design_view}
use Rattle.bd_terms.specs.declared.node.Sym.TheVariants as symbol
use Rattle.bd_symbolic.specs.States.{port_sorts}
use Rattle.bd_symbolic.proofs.Firsts.{firsts_made, firsts_sorted, inputs_denote}
use Rattle.bd_symbolic.proofs.first.sym_inputs.Goals as goal

pub returns-clause-sorted : goal.returns-clause-sorted
returns-clause-sorted c =
    let d = design_view c.args.design.now in
    IfOk-weaker c.first_inputs.result _ _ (λ ids h. firsts_sorted symbol.Input c.first_inputs.new.graph (c.args.cycle * length d.pipe.ports) ids (port_sorts d.pipe) h) c.first_inputs.ensures.terms

pub returns-clause-denotes : goal.returns-clause-denotes
returns-clause-denotes c =
    IfOk-weaker c.first_inputs.result _ _ (λ ids h. inputs_denote (design_view c.args.design.now) c.args.cycle c.first_inputs.new.graph ids h) c.first_inputs.ensures.terms

pub returns-clause-made : goal.returns-clause-made
returns-clause-made c =
    let d = design_view c.args.design.now in
    IfOk-weaker c.first_inputs.result _ _ (λ ids h. firsts_made symbol.Input c.first_inputs.new.graph (c.args.cycle * length d.pipe.ports) ids (port_sorts d.pipe) h) c.first_inputs.ensures.terms
