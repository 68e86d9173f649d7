use Rattle.std.proofs.Common.{◌≡◌, ◌<◌, ◌≤◌, ◌∙◌, ◌⊎◌, None, Some, ap, sym, subst, refl}
use Rattle.std.specs.Prelude.{Result, Ok, Err, OnErr}
use Rattle.std.proofs.lemmas.Bool.{OnTrue_at, OnFalse_at}
use Rattle.bd_cnf.specs.Assignment.{value_of}
use Rattle.bd_watch.specs.declared.watch.Watch.{Watch}
use Rattle.bd_watch.specs.Levels.{literals, IsComplete}
use Rattle.bd_watch.specs.Trails.{LeveledTrail, MakesTrue, AllAssigned}
use Rattle.bd_watch.specs.Watch.{Propagates}
use Rattle.bd_cdcl.specs.declared.cdcl.search.Search.{Search}
use Rattle.bd_cdcl.specs.inner.Deleting.{Deletes}
use Rattle.bd_cdcl.specs.inner.Deletions.{AreCovered, standing_of}
use Rattle.bd_cdcl.specs.inner.Descents.{IsDescending, Advances}
use Rattle.bd_cdcl.proofs.DescentSteps.{propagated, deleting, descent_propagates, descent_moves, descent_deletes, descent_complete, descent_covered, descent_followed, descent_advances, descent_satisfies, both_if_ok}
use Rattle.bd_cdcl.proofs.cdcl.search.Search.step.Goals as goal

at_error : {X E : Type 0} {P : Type 0} → (r : Result X E) → P → OnErr r P
at_error (Ok x) so = tt
at_error (Err e) so = so

pub returns-in-Some-clause-ok : goal.returns-in-Some-clause-ok
returns-in-Some-clause-ok c =
    let p = c.args.problem.now in
    let d = c.args.self.now in
    let new = propagated d c.propagate.new.self in
    let propagates = subst (Propagates d.watch c.propagate.new.self) c.in-Some.is c.in_ok-conflict.ensures in
    let is = descent_propagates p d c.propagate.new.self c.args.log.now (Some c.in-Some.conflict) c.requires.descending propagates in
    both_if_ok _ _ _ (λ found follows ended. descent_followed p d new c.follow.new.self c.args.log.now c.follow.new.log c.args.budget c.in-Some.conflict is c.requires.budget propagates.end refl propagates.limit found follows ended)
    c.follow.result c.follow.ensures.ok c.follow.ensures.ended

-- a literal was decided, or clauses were deleted after a restart
pub returns-then-branch-clause-ok : goal.returns-then-branch-clause-ok
returns-then-branch-clause-ok c =
    let p = c.args.problem.now in
    let d = c.args.self.now in
    let new = propagated d c.propagate.new.self in
    let propagates = subst (Propagates d.watch c.propagate.new.self) c.in-None.is c.in_ok-conflict.ensures in
    let is = descent_propagates p d c.propagate.new.self c.args.log.now None c.requires.descending propagates in
    let has = c.in_ok-advance-in-None.ensures in
    let advanced : Advances new c.advance.new.self = OnTrue_at (c.if-branch.true) has.advanced in
    let before : Search = deleting c.advance.new.self d.deletion in
    let moved : IsDescending p before c.args.log.now = descent_moves p new before c.args.log.now is advanced.watching advanced.clauses advanced.limit advanced.fixed has.learned has.analysis refl in
    let after : (0 < c.advance.new.self.learned) ⊎ (c.advance.new.log ≡ c.args.log.now) = subst (λ n. (0 < n) ⊎ (c.advance.new.log ≡ c.args.log.now)) (sym has.learned) has.after in
    let on : IsDescending p c.advance.new.self c.advance.new.log = descent_deletes p before c.advance.new.self.deletion c.args.log.now c.advance.new.log moved has.deletes after in
    record {
      descending = on;
      within = subst (λ n. n ≤ c.args.budget) (sym has.learned) c.requires.budget;
      nearer = descent_advances c.args.budget d c.propagate.new.self None c.advance.new.self propagates has.learned advanced.limit advanced.nearer;
    }

-- or nothing is left to decide
pub returns-in_ok-model-in-None-clause-ok : goal.returns-in_ok-model-in-None-clause-ok
returns-in_ok-model-in-None-clause-ok c =
    let p = c.args.problem.now in
    let d = c.args.self.now in
    let new = propagated d c.propagate.new.self in
    let propagates = subst (Propagates d.watch c.propagate.new.self) c.in-None.is c.in_ok-conflict.ensures in
    let is = descent_propagates p d c.propagate.new.self c.args.log.now None c.requires.descending propagates in
    let a = c.in_ok-model-in-None.model in
    let has = c.in_ok-advance-in-None.ensures in
    let unchanged : c.advance.new.self.watch ≡ c.propagate.new.self = OnFalse_at (c.if-branch.false) has.unchanged in
    let ended : AllAssigned c.propagate.new.self.trail = OnFalse_at (c.if-branch.false) has.ended in
    let del = c.advance.new.self.deletion in
    let logged = descent_deletes p new del c.args.log.now c.advance.new.log is (subst (λ (w : Watch). Deletes w d.deletion del c.args.log.now c.advance.new.log) unchanged has.deletes) has.after in
    let same : c.trail.result.now ≡ c.propagate.new.self.trail = c.trail.ensures ∙ ap (λ (w : Watch). w.trail) unchanged in
    record {
      law = descent_satisfies p (deleting new del) c.args.budget c.advance.new.log a logged c.requires.budget propagates.end.1 ended
          (subst (λ (t : LeveledTrail). MakesTrue (value_of a) (literals t.entries)) same c.in_ok-model-in-None.ensures);
      complete = subst (λ (w : Watch). IsComplete (standing_of w.clauses del.deleted.items) w.trail.entries) (sym unchanged) (descent_complete p (deleting new del) c.advance.new.log logged);
      covered = subst (λ (w : Watch). AreCovered w.clauses (standing_of w.clauses del.deleted.items)) (sym unchanged) (descent_covered p (deleting new del) c.advance.new.log logged);
    }

pub returns-in_err-model-in-None-clause-err : goal.returns-in_err-model-in-None-clause-err
returns-in_err-model-in-None-clause-err c =
    let p = c.args.problem.now in
    let d = c.args.self.now in
    let new = propagated d c.propagate.new.self in
    let propagates = subst (Propagates d.watch c.propagate.new.self) c.in-None.is c.in_ok-conflict.ensures in
    let is = descent_propagates p d c.propagate.new.self c.args.log.now None c.requires.descending propagates in
    let has = c.in_ok-advance-in-None.ensures in
    let unchanged : c.advance.new.self.watch ≡ c.propagate.new.self = OnFalse_at (c.if-branch.false) has.unchanged in
    let del = c.advance.new.self.deletion in
    let logged = descent_deletes p new del c.args.log.now c.advance.new.log is (subst (λ (w : Watch). Deletes w d.deletion del c.args.log.now c.advance.new.log) unchanged has.deletes) has.after in
    at_error c.from_residual-in_err-model-in-None.result logged.searching.accepted
