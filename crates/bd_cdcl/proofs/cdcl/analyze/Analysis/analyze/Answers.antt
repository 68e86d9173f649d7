use Rattle.std.proofs.Common.{◌∙◌, List, length, ap, sym, subst}
use Rattle.bd_lrat.specs.Database.{numbered}
use Rattle.bd_watch.specs.Levels.{Assigned}
use Rattle.bd_watch.specs.Trails.{LeveledTrail}
use Rattle.bd_cdcl.specs.declared.cdcl.analyze.Analysis.{Analysis}
use Rattle.bd_cdcl.specs.inner.Analyses.{Analyzes}
use Rattle.bd_cdcl.proofs.Analyses.{false_assigned, conflict_false, analyzes_from}
use Rattle.bd_cdcl.proofs.cdcl.analyze.Analysis.analyze.Goals as goal

pub mark-requires-clause-assigned : goal.mark-requires-clause-assigned
mark-requires-clause-assigned c =
    let w = c.args.watch.now in
    false_assigned w.trail.entries c.clause.result.now (conflict_false (numbered w.clauses) w.trail.entries c.args.conflict c.clause.result.now c.requires.conflict c.clause.ensures)

pub loop-place-init : goal.loop-place-init
loop-place-init c =
    let w = c.args.watch.now in
    let clause = c.clause.result.now in
    let new : Analysis = record { marks = c.mark.new.marks; kept = c.clear.new.self; ids = c.clear-2.new.self } in
    let bad = conflict_false (numbered w.clauses) w.trail.entries c.args.conflict clause c.requires.conflict c.clause.ensures in
    let size = ap (λ (es : List Assigned). length es) (c.as_slice-place.ensures.entries ∙ ap (λ (t : LeveledTrail). t.entries) c.trail-2.ensures) in
    record {
      false_clause = clause;
      stands = c.clause.ensures;
      analyzes = subst (λ n. Analyzes w c.args.start clause n new) (sym size) (analyzes_from w c.args.start c.args.conflict clause c.args.self.now new c.requires.watching c.requires.start c.clause.ensures bad c.requires.clear c.mark.ensures c.clear.ensures.items c.clear-2.ensures.items);
    }
