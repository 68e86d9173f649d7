use Rattle.std.proofs.Common.{◌≤◌, List, Vec, Global, sym, ap, subst}
use Rattle.bd_cnf.specs.Literal.{Literal}
use Rattle.bd_lrat.specs.Database.{numbered}
use Rattle.bd_watch.specs.Levels.{IsComplete}
use Rattle.bd_watch.specs.Watching.{IsConflict}
use Rattle.bd_cdcl.specs.inner.Passes.{AllClosed}
use Rattle.bd_cdcl.proofs.SearchSteps.{search_moves, search_decided, search_ends, search_goes_on, search_is_done}
use Rattle.bd_cdcl.proofs.plain.search.PlainSearch.finish.Goals as goal

pub returns-in-Some-2-clause-law : goal.returns-in-Some-2-clause-law
returns-in-Some-2-clause-law c =
    let p = c.args.problem.now in
    let clauses = c.loop-conflict.self.clauses.items in
    let trail = c.propagate.new.trail in
    let complete = subst (λ cs. IsComplete (numbered cs) trail.entries) c.deref.ensures.value c.in-Some.ensures.complete in
    let at = subst (λ cs. IsConflict (numbered cs) trail.entries c.in-Some.conflict) c.deref.ensures.value c.in-Some.ensures.conflict in
    let moved = search_moves p clauses c.loop-conflict.self.trail trail c.loop-conflict.self.learned c.loop-conflict.log c.loop-conflict.invariant.searching c.in-Some.ensures.limit complete in
    search_ends p clauses c.learn.new.self.clauses.items trail c.learn.new.self.trail c.loop-conflict.log c.learn.new.log c.in-Some.conflict c.loop-conflict.self.learned c.learn.new.self.learned c.args.budget c.in_ok-found-in-Some.field-0 c.in-Some-2.found moved c.loop-conflict.invariant.budgeted at c.in_ok-found-in-Some.ensures.resolved c.in-Some-2.is

pub loop-conflict-preserved-in_default : goal.loop-conflict-preserved-in_default
loop-conflict-preserved-in_default c =
    let p = c.args.problem.now in
    let clauses = c.loop-conflict.self.clauses.items in
    let trail = c.propagate.new.trail in
    let complete = subst (λ cs. IsComplete (numbered cs) trail.entries) c.deref.ensures.value c.in-Some.ensures.complete in
    let at = subst (λ cs. IsConflict (numbered cs) trail.entries c.in-Some.conflict) c.deref.ensures.value c.in-Some.ensures.conflict in
    let moved = search_moves p clauses c.loop-conflict.self.trail trail c.loop-conflict.self.learned c.loop-conflict.log c.loop-conflict.invariant.searching c.in-Some.ensures.limit complete in
    let both = search_goes_on p clauses c.learn.new.self.clauses.items trail c.learn.new.self.trail c.loop-conflict.log c.learn.new.log c.in-Some.conflict c.loop-conflict.self.learned c.learn.new.self.learned c.args.budget c.in_ok-found-in-Some.field-0 moved at c.in_ok-found-in-Some.ensures.resolved c.in_default.is in
    record { searching = both.0; budgeted = both.1 }

pub returns-then-not-decide-clause-law : goal.returns-then-not-decide-clause-law
returns-then-not-decide-clause-law c =
    let p = c.args.problem.now in
    let clauses = c.loop-conflict.self.clauses.items in
    let trail = c.propagate.new.trail in
    let complete = subst (λ cs. IsComplete (numbered cs) trail.entries) c.deref.ensures.value c.in-None.ensures.complete in
    let closed = subst (λ cs. AllClosed cs trail.entries) c.deref.ensures.value c.in-None.ensures.closed in
    let moved = search_moves p clauses c.loop-conflict.self.trail trail c.loop-conflict.self.learned c.loop-conflict.log c.loop-conflict.invariant.searching c.in-None.ensures.limit complete in
    search_is_done p clauses trail c.decide.new.self.trail c.loop-conflict.self.learned c.args.budget c.loop-conflict.log c.in_ok-assignment-in-None.field-0 moved c.loop-conflict.invariant.budgeted closed c.if-not-decide.ensures.all c.if-not-decide.ensures.unchanged c.in_ok-assignment-in-None.ensures

pub loop-conflict-preserved : goal.loop-conflict-preserved
loop-conflict-preserved c =
    let p = c.args.problem.now in
    let clauses = c.loop-conflict.self.clauses.items in
    let trail = c.propagate.new.trail in
    let complete = subst (λ cs. IsComplete (numbered cs) trail.entries) c.deref.ensures.value c.in-None.ensures.complete in
    let closed = subst (λ cs. AllClosed cs trail.entries) c.deref.ensures.value c.in-None.ensures.closed in
    let moved = search_moves p clauses c.loop-conflict.self.trail trail c.loop-conflict.self.learned c.loop-conflict.log c.loop-conflict.invariant.searching c.in-None.ensures.limit complete in
    record {
      searching = search_decided p clauses c.decide.new.self.clauses.items trail c.decide.new.self.trail c.loop-conflict.self.learned c.decide.new.self.learned c.loop-conflict.log moved closed c.if-not-decide.ensures.decided (ap (λ (v : Vec (List Literal) Global). v.items) c.if-not-decide.ensures.clauses) c.if-not-decide.ensures.learned;
      budgeted = subst (λ n. n ≤ c.args.budget) (sym c.if-not-decide.ensures.learned) c.loop-conflict.invariant.budgeted;
    }
