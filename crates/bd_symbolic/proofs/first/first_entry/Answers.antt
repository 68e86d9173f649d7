use Rattle.std.proofs.Common.{subst, sym, IfOk}
use Rattle.bd_terms.specs.declared.node.Sym.TheVariants as symbol
use Rattle.bd_symbolic.specs.inner.First.{IsFirstTerm}
use Rattle.bd_terms.specs.declared.node.Node.TheVariants as node
use Rattle.bd_symbolic.proofs.Making.{called}
use Rattle.bd_symbolic.proofs.Firsts.{first_memory}
use Rattle.bd_symbolic.proofs.first.first_entry.Goals as goal

pub returns-in-Memory-clause-term : goal.returns-in-Memory-clause-term
returns-in-Memory-clause-term c =
    subst (λ s. IfOk c.mk_init.result (IsFirstTerm c.mk_init.new.self (symbol.Entry c.args.place) s)) (sym c.in-Memory.is) (first_memory _ c.args.place _ c.mk_init.ensures.denotes c.mk_init.ensures.sorted (called _ _ (node.Init c.args.place) _ tt c.mk_init.ensures.simplified))
