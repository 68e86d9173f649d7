use Rattle.std.proofs.Common.{map, drop}
use Rattle.bd_model.specs.DesignView.{design_view}
use Rattle.bd_model.specs.Lawful.{entry_sorts}
use Rattle.bd_model.specs.declared.design.Entry as entry
use Rattle.bd_terms.specs.declared.node.Sym.TheVariants as symbol
use Rattle.bd_symbolic.proofs.Firsts.{FirstsDone}
use Rattle.bd_symbolic.proofs.first.first_entries.Given as goal

abbrev pub invariant-loop-entry : goal.invariant-loop-entry
invariant-loop-entry l = FirstsDone (design_view l.design) symbol.Entry 0 l.fn.graph l.graph (entry_sorts (design_view l.design).pipe) (map (λ (x : entry.Entry). x.sort) (drop l.entry-index l.entry-items)) l.entry-index l.entries
