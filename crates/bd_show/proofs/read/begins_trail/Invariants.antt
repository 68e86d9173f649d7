use Rattle.std.proofs.Common.{◌≡◌, drop}
use Rattle.std.specs.Prelude.{false}
use Rattle.bd_show.specs.Files.{begins_trail}
use Rattle.bd_show.proofs.read.begins_trail.Given as goal

abbrev pub invariant-loop-at : goal.invariant-loop-at
invariant-loop-at l = begins_trail l.comment (drop l.at l.text) ≡ begins_trail false l.text
