-- How many literals of a clause are open.
use Rattle.std.specs.Prelude.{◌≡◌, ◌≤◌, List, [], ◌∷◌, length}
use Rattle.bd_cnf.specs.Literal.{Literal}
use Rattle.bd_cnf.specs.declared.status.ClauseStatus.{ClauseStatus}
use Rattle.bd_cnf.specs.declared.status.ClauseStatus.TheVariants.{Falsified, Unit as UnitIn, Unresolved}

-- how many literals are open, and which where it is one
abbrev pub IsStatus : ClauseStatus → List Literal → Type 0
IsStatus Falsified ls = ls ≡ []
IsStatus (UnitIn l) ls = ls ≡ l ∷ []
IsStatus Unresolved ls = 2 ≤ length ls
