use Rattle.std.proofs.Common.{◌≡◌, drop}
use Rattle.bd_text.specs.View.{nodes_of_all}
use Rattle.bd_syntax.specs.Reading.{each_form, name_form}
use Rattle.bd_syntax.proofs.EachForm.{with_front}
use Rattle.bd_syntax.proofs.read_item.names.Given as goal

abbrev pub invariant-loop-part : goal.invariant-loop-part
invariant-loop-part l = with_front l.names.items (each_form name_form (nodes_of_all (drop l.part-index l.parts))) ≡ each_form name_form (nodes_of_all l.parts)
