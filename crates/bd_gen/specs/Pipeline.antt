-- The text of a pipeline with full forwarding, line by line (Burch and Dill 1994; forwarding as in Bryant, German and Velev 2001).
-- Stage 1 fetches. An instruction in a stage i from 2 on has a valid bit v{i}, a destination register d{i} and a result r{i}.
use Rattle.std.specs.Prelude.{ℕ, ◌+◌, ◌-◌, List, ◌++◌, ◌==◌, ◌&&◌, nat_le, if◌then◌else◌, reverse, codes}
use Rattle.std.specs.Fmt.{decimal}
use Rattle.std.specs.List.{flat_map, range_with_len}

-- the stages from the first to the last, in order
abbrev pub stages : ℕ → ℕ → List ℕ
stages first last = range_with_len first (last + 1 - first)

-- what an instruction is made of, as the specification has it too
abbrev pub function_lines : List ℕ
function_lines =
    codes " (function inc 1)\n"
    ++ codes " (function src 1)\n"
    ++ codes " (function dst 1)\n"
    ++ codes " (function op 1)\n"
    ++ codes " (function alu 2)\n"

-- what is there at each depth: the program counter, the registers, and the operation and operand in stage 2
abbrev pub state_lines : List ℕ
state_lines =
    codes " (latch pc word)\n"
    ++ codes " (memory rf)\n"
    ++ codes " (latch o word)\n"
    ++ codes " (latch a word)\n"

-- the latches of stage i; the result is a latch from stage 3 on, and computed in stage 2
abbrev pub valid_latch : ℕ → List ℕ
valid_latch i = codes " (latch v" ++ decimal i ++ codes " bool)\n"

abbrev pub destination_latch : ℕ → List ℕ
destination_latch i = codes " (latch d" ++ decimal i ++ codes " word)\n"

abbrev pub result_latch : ℕ → List ℕ
result_latch i = codes " (latch x" ++ decimal i ++ codes " word)\n"

-- for each stage in turn its valid bit and destination, and then the results
abbrev pub latch_lines : ℕ → List ℕ
latch_lines depth =
    flat_map (λ i. valid_latch i ++ destination_latch i) (stages 2 depth)
    ++ flat_map result_latch (stages 3 depth)

-- the stall, the source register of the fetched instruction, and the result that stage 2 computes
abbrev pub fetch_lines : List ℕ
fetch_lines =
    codes " (input stall bool true)\n"
    ++ codes " (let s word (src pc))\n"
    ++ codes " (let r2 word (alu o a))\n"

-- the result in stage i, from stage 3 on
abbrev pub result_line : ℕ → List ℕ
result_line i = codes " (let r" ++ decimal i ++ codes " word x" ++ decimal i ++ codes ")\n"

-- the operand as the registers have it, after the last stage
abbrev pub register_line : ℕ → List ℕ
register_line depth = codes " (let q" ++ decimal (depth + 1) ++ codes " word (read rf s))\n"

-- the operand from stage i on, where the stage's result goes before what older stages give
abbrev pub forwarding_line : ℕ → List ℕ
forwarding_line i =
    codes " (let q" ++ decimal i ++ codes " word (ite (and v" ++ decimal i ++ codes " (= d" ++ decimal i
    ++ codes " s)) r" ++ decimal i ++ codes " q" ++ decimal (i + 1) ++ codes "))\n"

-- the operand from stage i on, where nothing is forwarded from the stage
abbrev pub missing_line : ℕ → List ℕ
missing_line i = codes " (let q" ++ decimal i ++ codes " word q" ++ decimal (i + 1) ++ codes ")\n"

-- path p is the one from stage p + 1; path 0 is none
abbrev pub operand_line : ℕ → ℕ → List ℕ
operand_line drop i = if nat_le 1 drop && (i == drop + 1) then missing_line i else forwarding_line i

-- the operand, from the oldest stage to the youngest
abbrev pub operand_lines : ℕ → ℕ → List ℕ
operand_lines depth drop = flat_map (operand_line drop) (reverse (stages 2 depth))

-- a stalled fetch is tried again
abbrev pub program_counter_line : List ℕ
program_counter_line = codes " (next pc (ite stall pc (inc pc)))\n"

-- the last stage writes its result to the registers
abbrev pub write_back_line : ℕ → List ℕ
write_back_line depth =
    codes " (next rf (ite v" ++ decimal depth ++ codes " (write rf d" ++ decimal depth
    ++ codes " r" ++ decimal depth ++ codes ") rf))\n"

-- what stage 2 takes from the fetch
abbrev pub decode_lines : List ℕ
decode_lines =
    codes " (next o (op pc))\n"
    ++ codes " (next a q2)\n"
    ++ codes " (next v2 (not stall))\n"
    ++ codes " (next d2 (dst pc))\n"

-- what stage i takes from the stage before it
abbrev pub next_valid : ℕ → List ℕ
next_valid i = codes " (next v" ++ decimal i ++ codes " v" ++ decimal (i - 1) ++ codes ")\n"

abbrev pub next_destination : ℕ → List ℕ
next_destination i = codes " (next d" ++ decimal i ++ codes " d" ++ decimal (i - 1) ++ codes ")\n"

abbrev pub next_result : ℕ → List ℕ
next_result i = codes " (next x" ++ decimal i ++ codes " r" ++ decimal (i - 1) ++ codes ")\n"

-- for each stage in turn what it takes from the one before
abbrev pub passing_lines : ℕ → List ℕ
passing_lines depth = flat_map (λ i. next_valid i ++ next_destination i ++ next_result i) (stages 3 depth)

-- cycles that empty every stage after the fetch
abbrev pub flush_line : ℕ → List ℕ
flush_line depth = codes " (flush " ++ decimal (depth - 1) ++ codes ")\n"

-- a cycle of the pipeline is one step of the specification at most
abbrev pub steps_line : List ℕ
steps_line = codes " (steps 1))\n"

-- the pipeline up to its first stage
abbrev pub opening : List ℕ
opening = codes "(pipeline\n" ++ function_lines ++ state_lines

-- symbols, latches and the memory
abbrev pub declarations : ℕ → List ℕ
declarations depth = opening ++ latch_lines depth

-- what a cycle computes
abbrev pub lets : ℕ → ℕ → List ℕ
lets depth drop =
    fetch_lines ++ flat_map result_line (stages 3 depth) ++ register_line depth ++ operand_lines depth drop

-- what a cycle leaves
abbrev pub nexts : ℕ → List ℕ
nexts depth = program_counter_line ++ write_back_line depth ++ decode_lines ++ passing_lines depth

-- the pipeline of that depth, with that forwarding path left out
abbrev pub pipeline_text : ℕ → ℕ → List ℕ
pipeline_text depth drop = declarations depth ++ lets depth drop ++ nexts depth ++ flush_line depth ++ steps_line
