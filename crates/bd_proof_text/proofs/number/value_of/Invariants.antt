use Rattle.std.proofs.Common.{◌≡◌, ◌≤◌, take}
use Rattle.bd_proof_text.specs.Tokens.{decimal_value}
use Rattle.bd_proof_text.proofs.number.value_of.Given as goal

abbrev pub invariant-loop-digit : goal.invariant-loop-digit
invariant-loop-digit l = record {
  read : l.value ≡ decimal_value (take l.digit-index l.digits);
  small : l.value ≤ 18446744073709551615;
}
