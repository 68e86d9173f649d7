use Rattle.std.proofs.Common.{◌≡◌, ◌+◌, drop}
use Rattle.bd_diverse.specs.inner.Rows.{place_of}
use Rattle.bd_diverse.proofs.adding.place.Given as goal

abbrev pub invariant-loop-index : goal.invariant-loop-index
invariant-loop-index l = place_of l.tables l.sym ≡ l.index + place_of (drop l.index l.tables) l.sym
