-- The instructions that the generated pipeline runs, one after the other.
use Rattle.std.specs.Prelude.{ℕ, List, ◌++◌, codes}

-- the next program counter, the source and destination registers of an instruction, its operation, and the unit that computes
abbrev pub shared_functions : List ℕ
shared_functions = codes " (function inc 1) (function src 1) (function dst 1) (function op 1) (function alu 2)\n"

-- an instruction reads its one source register, and writes its destination register (Burch and Dill 1994)
abbrev pub instruction : List ℕ
instruction = codes " (next pc (inc pc))\n" ++ codes " (next rf (write rf (dst pc) (alu (op pc) (read rf (src pc))))))\n"

-- the machine that runs one instruction a step
abbrev pub specification_text : List ℕ
specification_text = codes "(specification\n" ++ shared_functions ++ codes " (latch pc word) (memory rf)\n" ++ instruction
