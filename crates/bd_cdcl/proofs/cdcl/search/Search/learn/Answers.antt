use Rattle.std.proofs.Common.{◌+◌, List, refl, ap, sym, subst}
use Rattle.bd_cnf.specs.Literal.{Literal}
use Rattle.bd_watch.specs.Watch.{MayLearn, Learns}
use Rattle.bd_cdcl.proofs.DescentSteps.{may_learn, goes_on}
use Rattle.bd_cdcl.proofs.cdcl.search.Search.learn.Goals as goal

pub learn-requires-clause-learned : goal.learn-requires-clause-learned
learn-requires-clause-learned c =
    let lesson = c.in_ok-lesson.lesson in
    subst (λ (ls : List Literal). MayLearn c.go_back_to.new.self ls lesson.first lesson.second) (sym c.lits.ensures.value) (may_learn c.args.self.now.watch c.go_back_to.new.self c.args.start lesson c.in_ok-lesson.ensures.lesson c.go_back_to.ensures)

pub returns-clause-ok : goal.returns-clause-ok
returns-clause-ok c =
    let lesson = c.in_ok-lesson.lesson in
    let back = c.go_back_to.new.self in
    let learns = subst (λ (ls : List Literal). Learns back c.learn.new.self ls lesson.first) c.lits.ensures.value c.in_ok-learn.ensures in
    goes_on c.args.self.now _ back c.args.start _ lesson c.args.log.now c.push.new.self c.requires.start c.in_ok-lesson.ensures.lesson c.go_back_to.ensures learns c.in_ok-lesson.ensures.clear refl refl (ap (λ n. n + 1) c.len.ensures.value) c.in_ok-push.ensures.ok
