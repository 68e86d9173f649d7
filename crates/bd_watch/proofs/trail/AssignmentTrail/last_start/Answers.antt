use Rattle.std.proofs.Common.{◌≡◌, ◌-◌, ◌∙◌, ℕ, List, [], length, ap, subst}
use Rattle.std.specs.Prelude.{IfSome, IfNone, slice_get}
use Rattle.bd_watch.specs.Levels.{decisions}
use Rattle.bd_watch.specs.Trails.{LeveledTrail, IsLastStart}
use Rattle.bd_watch.proofs.Fronts.{last_start_some, last_start_none}
use Rattle.bd_watch.proofs.trail.AssignmentTrail.last_start.Goals as goal

pub returns-clause-some : goal.returns-clause-some
returns-clause-some c =
    let inside = c.self.inside in
    let read = c.copied.ensures ∙ c.last.ensures.value ∙ ap (λ (xs : List ℕ). slice_get xs (length xs - 1)) c.deref.ensures.value in
    subst (λ (t : LeveledTrail). IfSome c.copied.result (IsLastStart t.entries)) c.self.view_is (last_start_some inside.starts.items inside.entries.items c.copied.result c.self.invariant.started read)

pub returns-clause-none : goal.returns-clause-none
returns-clause-none c =
    let inside = c.self.inside in
    let read = c.copied.ensures ∙ c.last.ensures.value ∙ ap (λ (xs : List ℕ). slice_get xs (length xs - 1)) c.deref.ensures.value in
    subst (λ (t : LeveledTrail). IfNone c.copied.result (decisions t.entries ≡ [])) c.self.view_is (last_start_none inside.starts.items inside.entries.items c.copied.result c.self.invariant.started read)
