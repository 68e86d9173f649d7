use Rattle.std.proofs.Common.{Some}
use Rattle.std.proofs.lemmas.Result.{err_from_is_err_and}
use Rattle.bd_text.specs.View.{nodes_of}
use Rattle.bd_model.specs.DesignView.{design_view}
use Rattle.bd_typer.specs.Denotes.{design_of_trees, premise_file}
use Rattle.bd_typer.proofs.DenotesOnce.{on_given, on_fault, on_trees}
use Rattle.bd_typer.proofs.design.denoted_third.Goals as goal

pub returns-in_err-third-in-Some : goal.returns-in_err-third-in-Some
returns-in_err-third-in-Some c =
    let q = err_from_is_err_and c.from_residual.result c.from_residual.ensures.1 in
    let fault = c.in_err-third-in-Some.field-0.0 in
    rw (q.1, q.2, c.in-Some.is) (on_fault design_view (premise_file c.args.premise) c.in-Some.third.now fault _ (rw c.file.ensures at c.in_err-third-in-Some.ensures.fault))

pub returns-in_ok-third-in-Some : goal.returns-in_ok-third-in-Some
returns-in_ok-third-in-Some c =
    let i = nodes_of c.in_ok-third-in-Some.third in
    let result = c.design_of_trees-in-Some.result in
    rw c.in-Some.is (on_trees design_view (premise_file c.args.premise) c.in-Some.third.now result _ i c.in_ok-third-in-Some.ensures.no_fault c.in_ok-third-in-Some.ensures.trees
    (on_given design_view result (design_of_trees c.args.premise (nodes_of c.args.pipe.now) (nodes_of c.args.spec.now) (Some i)) c.design_of_trees-in-Some.ensures))
