-- A check's trail between two lines.
use Rattle.std.specs.Prelude.{◌≡◌, ℕ, ◌+◌, ◌<◌, ◌^◌, []}
use Rattle.bd_cnf.specs.Standing.{Standing, StandsBelow}
use Rattle.bd_cnf.specs.Trail.{TrailView, trail_of}

-- between two checks no literal is on the trail, there is room for each variable that stands, and each literal can be packed
pub record IsReady (vars : ℕ) (standing : Standing) (trail : TrailView) : Type 0 where
  pub none : trail ≡ trail_of (vars + 1) []
  pub below : StandsBelow (vars + 1) standing
  pub packable : vars < 2 ^ 31
