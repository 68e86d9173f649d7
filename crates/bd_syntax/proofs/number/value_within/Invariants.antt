use Rattle.std.proofs.Common.{◌≡◌, ◌≤◌, take}
use Rattle.bd_syntax.specs.Reading.{number_of}
use Rattle.bd_syntax.proofs.number.value_within.Given as goal

abbrev pub invariant-loop-digit : goal.invariant-loop-digit
invariant-loop-digit l = record {
  read : l.value ≡ number_of (take l.digit-index l.digits);
  small : l.value ≤ l.most;
}
