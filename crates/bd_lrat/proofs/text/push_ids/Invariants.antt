use Rattle.std.proofs.Common.{◌≡◌, ◌++◌, string_bytes, take}
use Rattle.bd_lrat.specs.Text.{ids_text}
use Rattle.bd_lrat.proofs.text.push_ids.Given as goal

abbrev pub invariant-loop-id : goal.invariant-loop-id
invariant-loop-id l = string_bytes l.text ≡ string_bytes l.fn.text ++ ids_text (take l.id-index l.ids)
