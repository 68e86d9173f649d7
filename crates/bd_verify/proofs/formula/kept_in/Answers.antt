use Rattle.bd_model.specs.DesignView.{design_view}
use Rattle.bd_symbolic.specs.Widened.{widened}
use Rattle.bd_verify.specs.declared.verdict.Question.TheVariants.{Breaks}
use Rattle.bd_verify.proofs.KeptDecides.{kept-decides}
use Rattle.bd_verify.proofs.RootAnswers.{asked-kept, kept-of}
use Rattle.bd_verify.proofs.formula.kept_in.Goals as goal

pub reduced-requires : goal.reduced-requires
reduced-requires c = c.in_ok-root.ensures.sorted

pub returns-clause-kept : goal.returns-clause-kept
returns-clause-kept c =
    let d = design_view c.args.design.now in
    let r = c.in_ok-reduction.reduction in
    let nodes = c.root_of.new.graph in
    let root = c.in_ok-root.root in
    asked-kept d c.requires Breaks nodes root c.in_ok-root.ensures c.args.mode r.formula.cnf
    (kept-of (widened d 1) nodes root c.args.mode r c.in_ok-reduction.ensures.flat (c.in_ok-reduction.ensures.formula 1))

pub returns-clause-decides : goal.returns-clause-decides
returns-clause-decides c =
    let d = design_view c.args.design.now in
    let r = c.in_ok-reduction.reduction in
    let nodes = c.root_of.new.graph in
    let root = c.in_ok-root.root in
    kept-decides d Breaks c.args.mode r.formula.cnf c.requires
    (asked-kept d c.requires Breaks nodes root c.in_ok-root.ensures c.args.mode r.formula.cnf
    (kept-of (widened d 1) nodes root c.args.mode r c.in_ok-reduction.ensures.flat (c.in_ok-reduction.ensures.formula 1)))
