use Rattle.std.proofs.Common.{◌∙◌, ap, sym}
use Rattle.bd_cnf.specs.Literal.{Literal, has_literal}
use Rattle.bd_watch.specs.Levels.{literals}
use Rattle.bd_watch.proofs.VisitedClauses.{left_below, watcher_long, left_blocker, left_rest}
use Rattle.bd_watch.proofs.watch.Watch.left.Goals as goal

pub has-requires : goal.has-requires
has-requires c =
    let w = c.args.self.now in
    left_below w c.args.watcher.now.clause c.args.watcher.now.rest c.negated.result c.requires.watching (watcher_long w _ c.args.watcher.now c.requires.watcher) c.requires.watcher.rest.here (ap (λ (l : Literal). l.var) c.negated.ensures)

pub returns-then-has : goal.returns-then-has
returns-then-has c =
    left_blocker c.args.self.now c.args.watcher.now c.args.lit c.requires.watcher (sym c.is.ensures ∙ c.if-is.false) c.requires.falsified
    (ap (has_literal (literals c.args.self.now.trail.entries)) (sym c.negated.ensures) ∙ sym c.has.ensures ∙ c.if-has.true)
    c.requires.blocker

pub has-requires-2 : goal.has-requires-2
has-requires-2 c =
    let w = c.args.self.now in
    left_below w c.args.watcher.now.clause c.args.watcher.now.blocker c.negated-2.result c.requires.watching (watcher_long w _ c.args.watcher.now c.requires.watcher) c.requires.watcher.blocker (ap (λ (l : Literal). l.var) c.negated-2.ensures)

pub returns-then-has-2 : goal.returns-then-has-2
returns-then-has-2 c =
    left_rest c.args.self.now c.args.watcher.now c.args.lit c.requires.watcher (sym c.is.ensures ∙ c.if-is.false) c.requires.falsified
    (ap (has_literal (literals c.args.self.now.trail.entries)) (sym c.negated-2.ensures) ∙ sym c.has-2.ensures ∙ c.if-has-2.true)
    c.requires.rest
