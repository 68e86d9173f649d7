use Rattle.std.proofs.lemmas.Result.{err_from_is_err_and}
use Rattle.bd_text.specs.View.{nodes_of}
use Rattle.bd_typer.specs.declared.fault.Text.TheVariants.{Comp}
use Rattle.bd_typer.specs.Joined.{joined_view}
use Rattle.bd_typer.proofs.DenotesOnce.{on_fault, on_trees}
use Rattle.bd_typer.proofs.design.completed_machines.Goals as goal

pub returns-in_err-comp-clause-exact : goal.returns-in_err-comp-clause-exact
returns-in_err-comp-clause-exact c =
    let q = err_from_is_err_and c.from_residual.result c.from_residual.ensures.1 in
    rw (q.1, q.2) (on_fault joined_view Comp c.args.comp.now c.in_err-comp.field-0.0 _ c.in_err-comp.ensures.fault)

pub returns-clause-exact : goal.returns-clause-exact
returns-clause-exact c =
    on_trees joined_view Comp c.args.comp.now c.completed_with.result _ (nodes_of c.in_ok-comp.comp) c.in_ok-comp.ensures.no_fault c.in_ok-comp.ensures.trees c.completed_with.ensures.exact
