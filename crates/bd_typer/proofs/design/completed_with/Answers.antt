use Rattle.std.proofs.Common.{Some, None}
use Rattle.std.proofs.lemmas.Result.{err_from_is_err_and}
use Rattle.bd_text.specs.View.{nodes_of}
use Rattle.bd_typer.specs.declared.fault.Text.TheVariants.{Inv}
use Rattle.bd_typer.specs.Denotes.{completed_of_trees}
use Rattle.bd_typer.specs.Joined.{joined_view}
use Rattle.bd_typer.proofs.DenotesOnce.{on_given, on_fault, on_trees}
use Rattle.bd_typer.proofs.design.completed_with.Goals as goal

pub returns-in-None-clause-exact : goal.returns-in-None-clause-exact
returns-in-None-clause-exact c =
    rw c.in-None.is (on_given joined_view c.completed_of_trees.result (completed_of_trees (nodes_of c.args.pipe.now) (nodes_of c.args.spec.now) (nodes_of c.args.comp.now) None) c.completed_of_trees.ensures.exact)

pub returns-in_err-inv-in-Some-clause-exact : goal.returns-in_err-inv-in-Some-clause-exact
returns-in_err-inv-in-Some-clause-exact c =
    let q = err_from_is_err_and c.from_residual.result c.from_residual.ensures.1 in
    rw (q.1, q.2, c.in-Some.is) (on_fault joined_view Inv c.in-Some.inv.now c.in_err-inv-in-Some.field-0.0 _ c.in_err-inv-in-Some.ensures.fault)

pub returns-in_ok-inv-in-Some-clause-exact : goal.returns-in_ok-inv-in-Some-clause-exact
returns-in_ok-inv-in-Some-clause-exact c =
    let i = nodes_of c.in_ok-inv-in-Some.inv in
    let result = c.completed_of_trees-in-Some.result in
    rw c.in-Some.is (on_trees joined_view Inv c.in-Some.inv.now result _ i c.in_ok-inv-in-Some.ensures.no_fault c.in_ok-inv-in-Some.ensures.trees
    (on_given joined_view result (completed_of_trees (nodes_of c.args.pipe.now) (nodes_of c.args.spec.now) (nodes_of c.args.comp.now) (Some i)) c.completed_of_trees-in-Some.ensures.exact))
