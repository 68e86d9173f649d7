use Rattle.bd_prop.specs.declared.inside.Uses.TheVariants.{Elsewhere}
use Rattle.bd_prop.specs.Inside.{add_use}
use Rattle.bd_prop.proofs.Naming.{IsFolded}
use Rattle.bd_prop.proofs.inside.use_items.Given as goal

abbrev pub invariant-loop-item : goal.invariant-loop-item
invariant-loop-item l = IsFolded (add_use Elsewhere) l.initial.uses l.items l.item-index l.uses
