use Rattle.std.proofs.Common.{sym, subst}
use Rattle.std.specs.Prelude.{IfOk}
use Rattle.bd_terms.specs.declared.node.Node.TheVariants as node
use Rattle.bd_symbolic.proofs.Making.{called}
use Rattle.bd_goal.specs.Made.{IsUnless}
use Rattle.bd_goal.proofs.commute.unless.Goals as goal

pub returns-then-is_free-clause-made : goal.returns-then-is_free-clause-made
returns-then-is_free-clause-made c =
    subst (λ b. IfOk c.mk_true.result (IsUnless c.mk_true.new.self b c.args.when)) (sym c.if-is_free.true) (called _ _ node.True c.mk_true.result tt c.mk_true.ensures.simplified)

pub returns-else-is_free-clause-made : goal.returns-else-is_free-clause-made
returns-else-is_free-clause-made c =
    subst (λ b. IfOk c.mk_not.result (IsUnless c.mk_not.new.self b c.args.when)) (sym c.if-is_free.false) (called _ _ (node.Not c.args.when) c.mk_not.result (c.requires.inside, tt) c.mk_not.ensures.simplified)
