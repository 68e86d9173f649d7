use Rattle.std.proofs.lemmas.Result.{IfOk-weaker}
use Rattle.bd_model.specs.DesignView.{design_view}
use Rattle.bd_model.specs.Lawful.{entry_sorts}
use Rattle.bd_terms.specs.declared.node.Sym.TheVariants as symbol
use Rattle.bd_symbolic.proofs.Firsts.{entries_denote, firsts_made, firsts_sorted}
use Rattle.bd_symbolic.proofs.first.sym_entries.Goals as goal

pub returns-clause-sorted : goal.returns-clause-sorted
returns-clause-sorted c =
    IfOk-weaker c.first_entries.result _ _ (λ ids h. firsts_sorted symbol.Entry c.first_entries.new.graph 0 ids (entry_sorts (design_view c.args.design.now).pipe) h) c.first_entries.ensures.terms

pub returns-clause-denotes : goal.returns-clause-denotes
returns-clause-denotes c = IfOk-weaker c.first_entries.result _ _ (λ ids h. entries_denote (design_view c.args.design.now) c.first_entries.new.graph ids h) c.first_entries.ensures.terms

pub returns-clause-made : goal.returns-clause-made
returns-clause-made c =
    IfOk-weaker c.first_entries.result _ _ (λ ids h. firsts_made symbol.Entry c.first_entries.new.graph 0 ids (entry_sorts (design_view c.args.design.now).pipe) h) c.first_entries.ensures.terms
