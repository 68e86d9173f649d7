use Rattle.std.proofs.Common.{◌≡◌, true, rules}
use Rattle.bd_model.specs.DesignView.{design_view}
use Rattle.bd_model.specs.ExprView.{Truth, expr_view}
use Rattle.bd_model.specs.declared.expr.Expr.{the_lemmas}
use Rattle.bd_model.specs.declared.expr.Expr.TheVariants as form
use Rattle.bd_about.proofs.Changed.{without_invariant_lawful}
use Rattle.bd_about.proofs.asking.on_no_invariant.Goals as goal

pub found-requires : goal.found-requires
found-requires c =
    let truth : expr_view (form.Bool true) ≡ Truth true = search (rules, the_lemmas) in
    rw (c.with_invariant-changed.ensures.design, c.new.ensures, truth) (without_invariant_lawful (design_view c.args.design) c.requires)
