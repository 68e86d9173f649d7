use Rattle.std.proofs.Common.{sym, subst}
use Rattle.std.specs.Prelude.{IfOk}
use Rattle.bd_terms.proofs.Growth.{AddsUses-trans}
use Rattle.bd_symbolic.specs.Made.{IsConstant}
use Rattle.bd_symbolic.proofs.Making.{denial_called}
use Rattle.bd_symbolic.proofs.build.constant.Goals as goal

pub returns-else-value-clause-made : goal.returns-else-value-clause-made
returns-else-value-clause-made c =
    subst (λ b. IfOk c.mk_not.result (IsConstant c.mk_not.new.self b)) (sym c.if-value.false)
    (denial_called _ _ _ _ c.mk_not.result c.mk_not.ensures.extends c.in_ok-yes.ensures.sorted.inside c.in_ok-yes.ensures.simplified c.mk_not.ensures.simplified)

pub returns-else-value-clause-uses : goal.returns-else-value-clause-uses
returns-else-value-clause-uses c = AddsUses-trans _ _ _ _ c.mk_true.ensures.uses c.mk_not.ensures.uses
