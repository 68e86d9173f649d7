use Rattle.std.proofs.Common.{◌≡◌, drop}
use Rattle.bd_typer.specs.Walk.{constants}
use Rattle.bd_typer.specs.Repeats.{no_texts}
use Rattle.bd_typer.specs.inner.Held.{members, lookup_names}
use Rattle.bd_typer.proofs.Loops.{with_front}
use Rattle.bd_typer.proofs.walk.constants.Given as goal

abbrev pub invariant-loop-spot : goal.invariant-loop-spot
invariant-loop-spot l =
    let names = lookup_names l.names in
    with_front l.group.items (constants names (members l.before) (drop l.spot-index l.spot-items)) ≡ constants names no_texts l.spots
