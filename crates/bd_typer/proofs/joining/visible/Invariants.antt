use Rattle.std.proofs.Common.{◌≡◌, ◌++◌, map, drop}
use Rattle.bd_model.specs.declared.design.Entry.{Entry}
use Rattle.bd_typer.specs.Joined.{entry_place}
use Rattle.bd_typer.specs.inner.Held.{meanings}
use Rattle.bd_typer.proofs.joining.visible.Given as goal

abbrev pub invariant-loop-entry : goal.invariant-loop-entry
invariant-loop-entry l =
    l.places.items ++ map (λ (x : Entry). entry_place (meanings l.pipe x.name)) (drop l.entry-index l.entry-items) ≡ map (λ (x : Entry). entry_place (meanings l.pipe x.name)) l.entries
