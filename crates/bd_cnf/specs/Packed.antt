-- Literals as numbers (conflict-driven solvers, which index tables by literal).
use Rattle.std.specs.Prelude.{ℕ, ◌+◌, ◌*◌, if◌then◌else◌}
use Rattle.bd_cnf.specs.Literal.{Literal}

-- twice the variable, and one more where the literal is negative
abbrev pub literal_index : Literal → ℕ
literal_index l = 2 * l.var + (if l.positive then 0 else 1)
