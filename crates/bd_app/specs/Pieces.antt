-- In how many pieces the line of a fault is put.
use Rattle.std.specs.Prelude.{ℕ}
use Rattle.bd_app.specs.declared.answer.Ended.{Ended}
use Rattle.bd_app.specs.declared.answer.Ended.TheVariants.{Usage, Refused, BadText, Device, Memory}

-- FILE, a colon, OFFSET, a colon and a space, CODE, a space, TEXT, and the end of the line
abbrev pub refusal_pieces : ℕ
refusal_pieces = 8

-- `proof:`, LINE, a colon, COLUMN, a colon and a space, CODE, a space, TEXT, the words after it, the
-- number after those, and the end of the line
abbrev pub proof_pieces : ℕ
proof_pieces = 11

-- what has a report is put in none
abbrev pub line_pieces_of : Ended → ℕ
line_pieces_of Usage = 1
line_pieces_of (Refused t offset code) = refusal_pieces
line_pieces_of (BadText line column why cnf) = proof_pieces
line_pieces_of (Device w) = 2
line_pieces_of Memory = 1
line_pieces_of _ = 0
