use Rattle.std.proofs.Common.{◌∙◌, ◌<◌, ℕ, List, get_or, drop, refl, ap, sym, subst}
use Rattle.std.specs.Prelude.{IfSome, IfNone}
use Rattle.std.proofs.lemmas.List.{take_rest}
use Rattle.bd_cnf.specs.Literal.{Literal}
use Rattle.bd_cnf.specs.Clause.{SameLiterals, IsTautology}
use Rattle.bd_watch.specs.Trails.{LeveledTrail, IsStartFrom, IsDecisionAt}
use Rattle.bd_cdcl.proofs.LessonMade.{kept_no_tautology, lesson_is}
use Rattle.bd_cdcl.proofs.cdcl.learn.learned_from.Goals as goal

pub clause_of-requires : goal.clause_of-requires
clause_of-requires c =
    subst (λ (ls : List Literal). IsTautology ls → ⊥) (sym c.as_slice-kept.ensures.value) (kept_no_tautology c.args.watch.now c.args.start c.args.conflict c.analyze.new.self c.in_ok-analyze.ensures c.requires.watching)

pub returns-clause-lesson : goal.returns-clause-lesson
returns-clause-lesson c =
    let w = c.args.watch.now in
    let a = c.analyze.new.self in
    let s = c.last_falsified-literal.result in
    let value = c.as_slice-kept.ensures.value in
    let o = c.start_from.result in
    lesson_is w c.args.start c.args.conflict a c.in_ok-analyze.ensures _ s _ o c.requires.watching c.requires.start c.requires.conflict
    (take_rest c.as_slice-kept.result.now 1 ∙ ap (λ (ks : List Literal). drop 1 ks) value)
    (c.index-kept-0.is ∙ ap (λ (ks : List Literal). get_or ks 0 c.index-kept-0.result) value)
    refl
    c.unwrap_or-backjump.ensures
    (subst (SameLiterals c.in_ok-clause.clause) value c.in_ok-clause.ensures.same)
    c.in_ok-clause.ensures.rising
    c.last_falsified-literal.ensures
    (subst (λ (t : LeveledTrail). IfSome o (IsStartFrom t.entries s.floor)) c.trail.ensures c.start_from.ensures.some)
    (subst (λ (t : LeveledTrail). IfNone o ((p : ℕ) → IsDecisionAt t.entries p → p < s.floor)) c.trail.ensures c.start_from.ensures.none)
    c.in_ok-hints.ensures.hints
