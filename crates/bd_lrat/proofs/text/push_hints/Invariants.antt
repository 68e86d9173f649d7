use Rattle.std.proofs.Common.{◌≡◌, ◌++◌, string_bytes}
use Rattle.bd_lrat.specs.Text.{hints_text}
use Rattle.bd_lrat.proofs.text.push_hints.Given as goal

abbrev pub invariant-loop-hint : goal.invariant-loop-hint
invariant-loop-hint l = string_bytes l.text ++ hints_text l.hint-iterator ≡ string_bytes l.fn.text ++ hints_text l.hints
