use Rattle.bd_text.specs.View.{nodes_of}
use Rattle.bd_model.specs.DesignView.{design_view}
use Rattle.bd_typer.specs.declared.fault.Text.TheVariants.{Pipe, Spec}
use Rattle.bd_typer.proofs.DenotesOnce.{on_trees}
use Rattle.bd_typer.proofs.design.denoted.Goals as goal

pub returns : goal.returns
returns c =
    let result = c.denoted_third.result in
    on_trees design_view Pipe c.args.pipe.now result _ (nodes_of c.in_ok-pipe.pipe) c.in_ok-pipe.ensures.no_fault c.in_ok-pipe.ensures.trees
    (on_trees design_view Spec c.args.spec.now result _ (nodes_of c.in_ok-spec.spec) c.in_ok-spec.ensures.no_fault c.in_ok-spec.ensures.trees c.denoted_third.ensures)
