-- The lines of faults of a proof text.
-- Source: this project's own codes and texts.
use Rattle.std.specs.Prelude.{ℕ, List, [], ◌∷◌, ◌++◌, codes}
use Rattle.std.specs.Fmt.{decimal}
use Rattle.bd_lrat.specs.declared.refused.Refused.{Refused}
use Rattle.bd_lrat.specs.declared.refused.Refused.TheVariants as refused
use Rattle.bd_proof_text.specs.declared.fault.Why.{Why}
use Rattle.bd_proof_text.specs.declared.fault.Why.TheVariants as why
use Rattle.bd_text.specs.CodeText.{code_name, code_text}
use Rattle.bd_text.specs.declared.code.Code.{Code}
use Rattle.bd_text.specs.declared.code.Code.TheVariants as code

-- the code of a cause
abbrev pub why_code : Why → Code
why_code why.Byte = code.ProofByte
why_code why.Number = code.ProofNumber
why_code why.Form = code.ProofLine
why_code (why.NotAccepted r) = code.ProofNotAccepted
why_code why.NoEmpty = code.NoEmptyClause

-- why a line isn't accepted, with the variable or the id that shows it
abbrev pub refused_words : Refused → List ℕ
refused_words refused.NotRising = codes ", NotRising"
refused_words (refused.NoVariable variable) = codes ", NoVariable " ++ decimal variable
refused_words (refused.NoSuch id) = codes ", NoSuch " ++ decimal id
refused_words (refused.NotUnit id) = codes ", NotUnit " ++ decimal id
refused_words refused.NoConflict = codes ", NoConflict"
refused_words refused.Rat = codes ", Rat"

-- what stands after the text of the code
abbrev pub why_words : Why → List ℕ
why_words (why.NotAccepted r) = refused_words r
why_words _ = []

-- CODE TEXT
abbrev pub cause_text : Why → List ℕ
cause_text why =
    code_name (why_code why) ++ codes " " ++ code_text (why_code why) ++ why_words why

-- proof:LINE:COLUMN: CODE TEXT
abbrev pub proof_line_of : (line column code text words : List ℕ) → List ℕ
proof_line_of line column code text words =
    codes "proof:" ++ line ++ codes ":" ++ column ++ codes ": " ++ code ++ codes " " ++ text ++ words
    ++ 10 ∷ []

abbrev pub proof_line : ℕ → ℕ → Why → List ℕ
proof_line line column why =
    proof_line_of (decimal line) (decimal column) (code_name (why_code why))
    (code_text (why_code why)) (why_words why)
