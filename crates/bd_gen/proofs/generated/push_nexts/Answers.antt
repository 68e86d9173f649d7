use Rattle.std.proofs.Common.{◌≡◌, ◌++◌, append_assoc, string_bytes}
use Rattle.std.proofs.lemmas.Result.{on_ok_weaker}
use Rattle.bd_gen.specs.Pipeline.{program_counter_line, write_back_line, decode_lines, passing_lines}
use Rattle.bd_gen.proofs.Stages.{both}
use Rattle.bd_gen.proofs.generated.push_nexts.Goals as goal

pub returns : goal.returns
returns c =
    let depth = c.args.depth in
    let text = string_bytes c.args.text.now in
    let write_back : string_bytes c.write.new.self ≡ string_bytes c.push_str.new.self ++ write_back_line depth = simp append_assoc c.in_ok-write.ensures.bytes in
    let to_write_back = both text program_counter_line (write_back_line depth) c.in_ok-push_str.ensures.bytes write_back in
    let to_decode = both text (program_counter_line ++ write_back_line depth) decode_lines to_write_back c.in_ok-push_str-2.ensures.bytes in
    on_ok_weaker c.push_passing.result (both text (program_counter_line ++ write_back_line depth ++ decode_lines) (passing_lines depth) to_decode) c.push_passing.ensures
