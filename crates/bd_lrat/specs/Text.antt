-- The text of a log in LRAT.
use Rattle.std.specs.Prelude.{ℕ, List, [], ◌∷◌, ◌++◌, codes}
use Rattle.std.specs.Fmt.{decimal}
use Rattle.std.specs.List.{flat_map}
use Rattle.bd_cnf.specs.Problem.{literals_text}
use Rattle.bd_lrat.specs.declared.line.Hint.{Hint}
use Rattle.bd_lrat.specs.declared.line.Hint.TheVariants.{Unit as UnitHint, Rat}
use Rattle.bd_lrat.specs.declared.line.Line.{Line}
use Rattle.bd_lrat.specs.declared.line.Line.TheVariants.{Add, Delete}

-- a hint in decimal, after a minus sign where it is for a resolution on asymmetric tautologies (textual LRAT)
abbrev pub hint_text : Hint → List ℕ
hint_text (UnitHint id) = decimal id
hint_text (Rat id) = 45 ∷ decimal id

-- hints, each followed by a space (textual LRAT)
abbrev pub hints_text : List Hint → List ℕ
hints_text hs = flat_map (λ h. hint_text h ++ 32 ∷ []) hs

-- ids, each followed by a space (textual LRAT)
abbrev pub ids_text : List ℕ → List ℕ
ids_text ids = flat_map (λ id. decimal id ++ 32 ∷ []) ids

-- an addition: its id, the literals, a zero, the hints, a zero; a deletion: its id, `d`, the ids, a zero (textual LRAT)
abbrev pub line_text : Line → List ℕ
line_text (Add id clause hints) = decimal id ++ codes " " ++ literals_text clause ++ codes "0 " ++ hints_text hints ++ codes "0\n"
line_text (Delete id ids) = decimal id ++ codes " d " ++ ids_text ids ++ codes "0\n"

-- the lines in order (textual LRAT)
abbrev pub lrat : List Line → List ℕ
lrat lines = flat_map line_text lines
