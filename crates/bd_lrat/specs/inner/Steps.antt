-- How the calls that propagate hints report what the definitions say.
use Rattle.std.specs.Prelude.{◌≡◌, Bool, true, false, List, Result, Ok, Err}
use Rattle.bd_cnf.specs.Literal.{Literal}
use Rattle.bd_lrat.specs.declared.refused.Refused.{Refused}
use Rattle.bd_cnf.specs.Trail.{TrailView}
use Rattle.bd_lrat.specs.declared.line.Hint.{Hint}
use Rattle.bd_lrat.specs.inner.Store.{Store}
use Rattle.bd_lrat.specs.Propagation.{Outcome, Conflict, Reached, Stopped, hint_outcome, propagate}

-- whether a hint came to a conflict; if not, the trail afterwards
abbrev pub IsStep : Result Bool Refused → Outcome → List Literal → Type 0
IsStep (Ok true) outcome trail = outcome ≡ Conflict
IsStep (Ok false) outcome trail = outcome ≡ Reached trail
IsStep (Err r) outcome trail = outcome ≡ Stopped r

-- a hint over what is stored, from a trail
abbrev pub step_of : Store → TrailView → Hint → Outcome
step_of s trail h = hint_outcome s.clauses trail.literals h

-- hints over what is stored, from a trail
abbrev pub reached_by : Store → TrailView → List Hint → Outcome
reached_by s trail hints = propagate s.clauses trail.literals hints
