use Rattle.std.proofs.Common.{◌≤◌, ◌<◌, sym, subst, refl, arith}
use Rattle.bd_watch.specs.Watch.{Starts}
use Rattle.bd_cdcl.specs.declared.cdcl.search.Search.{Search}
use Rattle.bd_cdcl.specs.inner.Descents.{IsDescending, Steps, to_go}
use Rattle.bd_cdcl.proofs.DescentSteps.{descent_begins, descent_complete, descent_covered, units_refute}
use Rattle.bd_cdcl.proofs.cdcl.search.CompleteSearch.finish.Goals as goal

pub returns-in-Some-clause-law : goal.returns-in-Some-clause-law
returns-in-Some-clause-law c = units_refute c.args.problem.now c.args.self.search c.assign_units.new.self c.args.budget c.in-Some.conflict c.args.log.now c.refute.new.log c.requires.begun c.in-Some.ensures c.requires.empty c.in_ok-refute.ensures.ok

pub loop-search-init : goal.loop-search-init
loop-search-init c =
    let d = c.args.self.search in
    let new : Search = record { watch = c.assign_units.new.self; analysis = d.analysis; guide = d.guide; deletion = d.deletion; learned = d.learned; restarts = d.restarts } in
    let starts = subst (Starts d.watch c.assign_units.new.self) c.in_default.is c.assign_units.ensures in
    record {
      descending = subst (IsDescending c.args.problem.now new) (sym c.requires.empty) (descent_begins c.args.problem.now d new c.requires.begun starts refl refl refl);
      budgeted = omega (arith, c.requires.begun.none);
    }

-- a step ended the search
pub returns-in-Some-2-clause-law : goal.returns-in-Some-2-clause-law
returns-in-Some-2-clause-law c =
    let ends = subst (Steps c.args.problem.now c.loop-search.search c.step.new.self c.step.new.log c.args.budget) c.in-Some-2.is c.in_ok-found.ensures.ok in
    ends.law

pub invariant_of-result-in-Some-2-clause-complete : goal.invariant_of-result-in-Some-2-clause-complete
invariant_of-result-in-Some-2-clause-complete c =
    let ends = subst (Steps c.args.problem.now c.loop-search.search c.step.new.self c.step.new.log c.args.budget) c.in-Some-2.is c.in_ok-found.ensures.ok in
    ∣ ends.complete ∣₁

pub invariant_of-result-in-Some-2-clause-covered : goal.invariant_of-result-in-Some-2-clause-covered
invariant_of-result-in-Some-2-clause-covered c =
    let ends = subst (Steps c.args.problem.now c.loop-search.search c.step.new.self c.step.new.log c.args.budget) c.in-Some-2.is c.in_ok-found.ensures.ok in
    ∣ ends.covered ∣₁

-- or it goes on
pub invariant_of-into_search-clause-complete : goal.invariant_of-into_search-clause-complete
invariant_of-into_search-clause-complete c =
    let nears = subst (Steps c.args.problem.now c.loop-search.search c.step.new.self c.step.new.log c.args.budget) c.in_default-2.is c.in_ok-found.ensures.ok in
    ∣ descent_complete c.args.problem.now c.step.new.self c.step.new.log nears.descending ∣₁

pub invariant_of-into_search-clause-covered : goal.invariant_of-into_search-clause-covered
invariant_of-into_search-clause-covered c =
    let nears = subst (Steps c.args.problem.now c.loop-search.search c.step.new.self c.step.new.log c.args.budget) c.in_default-2.is c.in_ok-found.ensures.ok in
    ∣ descent_covered c.args.problem.now c.step.new.self c.step.new.log nears.descending ∣₁

pub loop-search-preserved : goal.loop-search-preserved
loop-search-preserved c =
    let nears = subst (Steps c.args.problem.now c.loop-search.search c.step.new.self c.step.new.log c.args.budget) c.in_default-2.is c.in_ok-found.ensures.ok in
    record {
      descending = subst (λ (s : Search). IsDescending c.args.problem.now s c.step.new.log) (sym c.into_search-search.ensures) nears.descending;
      budgeted = subst (λ (s : Search). s.learned ≤ c.args.budget) (sym c.into_search-search.ensures) nears.within;
    }

pub loop-search-smaller : goal.loop-search-smaller
loop-search-smaller c =
    let nears = subst (Steps c.args.problem.now c.loop-search.search c.step.new.self c.step.new.log c.args.budget) c.in_default-2.is c.in_ok-found.ensures.ok in
    subst (λ (s : Search). to_go c.args.budget s < to_go c.args.budget c.loop-search.search) (sym c.into_search-search.ensures) nears.nearer
