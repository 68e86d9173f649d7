use Rattle.bd_text.specs.View.{nodes_of}
use Rattle.bd_typer.specs.declared.fault.Text.TheVariants.{Pipe, Spec}
use Rattle.bd_typer.specs.Joined.{joined_view}
use Rattle.bd_typer.proofs.DenotesOnce.{on_trees}
use Rattle.bd_typer.proofs.design.completed_design.Goals as goal

pub returns-clause-exact : goal.returns-clause-exact
returns-clause-exact c =
    let result = c.completed_machines.result in
    on_trees joined_view Pipe c.args.pipe.now result _ (nodes_of c.in_ok-pipe.pipe) c.in_ok-pipe.ensures.no_fault c.in_ok-pipe.ensures.trees
    (on_trees joined_view Spec c.args.spec.now result _ (nodes_of c.in_ok-spec.spec) c.in_ok-spec.ensures.no_fault c.in_ok-spec.ensures.trees c.completed_machines.ensures.exact)
