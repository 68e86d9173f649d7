use Rattle.std.proofs.Common.{◌≡◌, ◌++◌, append_assoc, string_bytes}
use Rattle.std.proofs.lemmas.Result.{on_ok_weaker}
use Rattle.std.specs.List.{flat_map}
use Rattle.bd_gen.specs.Pipeline.{stages, fetch_lines, result_line, register_line, operand_lines}
use Rattle.bd_gen.proofs.Stages.{both}
use Rattle.bd_gen.proofs.generated.push_lets.Goals as goal

pub returns : goal.returns
returns c =
    let depth = c.args.depth in
    let text = string_bytes c.args.text.now in
    let results = flat_map result_line (stages 3 depth) in
    let registers : string_bytes c.write.new.self ≡ string_bytes c.push_results.new.text ++ register_line depth = simp append_assoc c.in_ok-write.ensures.bytes in
    let to_results = both text fetch_lines results c.in_ok-push_str.ensures.bytes c.in_ok-push_results.ensures in
    let to_registers = both text (fetch_lines ++ results) (register_line depth) to_results registers in
    on_ok_weaker c.push_operands.result (both text (fetch_lines ++ results ++ register_line depth) (operand_lines depth c.args.drop) to_registers) c.push_operands.ensures
