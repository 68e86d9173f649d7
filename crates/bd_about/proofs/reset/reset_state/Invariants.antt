use Rattle.std.proofs.Common.{◌≡◌, map, take}
use Rattle.bd_model.specs.declared.design.Entry.{Entry}
use Rattle.bd_about.specs.Reset.{zero_value}
use Rattle.bd_about.proofs.reset.reset_state.Given as goal

abbrev pub invariant-loop-entry : goal.invariant-loop-entry
invariant-loop-entry l = l.values.items ≡ map (λ (e : Entry). zero_value e.sort) (take l.entry-index l.entries)
