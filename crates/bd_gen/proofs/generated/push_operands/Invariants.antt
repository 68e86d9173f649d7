use Rattle.std.proofs.Common.{◌≡◌, ◌-◌, ◌++◌, string_bytes, reverse}
use Rattle.std.specs.List.{flat_map, range_with_len}
use Rattle.bd_gen.specs.Pipeline.{operand_line, operand_lines}
use Rattle.bd_gen.proofs.generated.push_operands.Given as goal

abbrev pub invariant-loop-i : goal.invariant-loop-i
invariant-loop-i l =
    string_bytes l.text ++ flat_map (operand_line l.drop) (reverse (range_with_len 2 (l.i - 2)))
    ≡ string_bytes l.fn.text ++ operand_lines l.depth l.drop
