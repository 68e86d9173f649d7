-- The parts of the line of a proof text's fault.
use Rattle.std.specs.Prelude.{ℕ, List, [], ◌∷◌, ◌++◌, codes, Option, Some, None}
use Rattle.std.specs.Fmt.{decimal}

-- a number, where there is one
abbrev pub number_text : Option ℕ → List ℕ
number_text None = []
number_text (Some n) = decimal n

-- the line, where words and a number after them stand after the text of the code
abbrev pub proof_parts : (line column code text words number : List ℕ) → List ℕ
proof_parts line column code text words number =
    codes "proof:" ++ line ++ codes ":" ++ column ++ codes ": " ++ code ++ codes " " ++ text ++ words
    ++ number ++ 10 ∷ []
