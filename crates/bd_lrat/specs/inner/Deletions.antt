-- The last addition of a log.
use Rattle.std.specs.Prelude.{ℕ, List, [], ◌∷◌, Option, Some}
use Rattle.bd_lrat.specs.declared.line.Line.{Line}
use Rattle.bd_lrat.specs.declared.line.Line.TheVariants.{Add, Delete}

-- the id of the last addition of the lines, or of the one before them
abbrev pub last_added : Option ℕ → List Line → Option ℕ
last_added added [] = added
last_added added ((Add id clause hints) ∷ lines) = last_added (Some id) lines
last_added added ((Delete id ids) ∷ lines) = last_added added lines
