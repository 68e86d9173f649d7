use Rattle.std.proofs.Common.{map, drop}
use Rattle.bd_model.specs.ExprView.{Entry}
use Rattle.bd_about.specs.Named.{any_of}
use Rattle.bd_about.proofs.Marking.{Left}
use Rattle.bd_about.proofs.unread.add_entries.Given as goal

abbrev pub invariant-loop-place : goal.invariant-loop-place
invariant-loop-place l =
    Left l.initial.marks l.marks (λ x. any_of x (map Entry (drop l.place-index l.places))) (λ x. any_of x (map Entry l.places))
