use Rattle.std.proofs.Common.{[], ◌∙◌, sym}
use Rattle.bd_terms.specs.declared.node.Node.TheVariants as node
use Rattle.bd_symbolic.proofs.Making.{called}
use Rattle.bd_symbolic.proofs.Firsts.{first_truth, first_word, is_bool, word_left}
use Rattle.bd_symbolic.proofs.first.first_latch.Goals as goal

pub returns-then-eq-clause-term : goal.returns-then-eq-clause-term
returns-then-eq-clause-term c =
    first_truth _ c.args.sym c.args.sort c.mk_pred.result (is_bool c.args.sort (sym c.eq.ensures ∙ c.if-eq.true)) c.mk_pred.ensures.denotes c.mk_pred.ensures.sorted (called _ _ (node.Pred c.args.sym []) c.mk_pred.result tt c.mk_pred.ensures.simplified)

pub returns-else-eq-clause-term : goal.returns-else-eq-clause-term
returns-else-eq-clause-term c =
    first_word _ c.args.sym c.args.sort c.mk_app.result (word_left c.args.sort (sym c.eq.ensures ∙ c.if-eq.false) c.requires.latch) c.mk_app.ensures.denotes c.mk_app.ensures.sorted (called _ _ (node.App c.args.sym []) c.mk_app.result tt c.mk_app.ensures.simplified)
