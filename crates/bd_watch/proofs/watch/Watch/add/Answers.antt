use Rattle.std.proofs.Common.{◌<◌, ◌∙◌, length, refl, ap, sym, arith}
use Rattle.std.proofs.lemmas.Result.{on_ok_weaker}
use Rattle.bd_cnf.specs.Literal.{Literal}
use Rattle.bd_watch.specs.Watching.{pair_of, IsPair}
use Rattle.bd_watch.proofs.Parts.{all_has}
use Rattle.bd_watch.proofs.Values.{index_below}
use Rattle.bd_watch.proofs.ListedWatchers.{length-listed_more}
use Rattle.bd_watch.proofs.LoadedClauses.{adds_short, adds_long}
use Rattle.bd_watch.proofs.watch.Watch.add.Goals as goal

pub list-requires : goal.list-requires
list-requires c =
    let pair = c.requires.pair c.if-lits-lt2.false in
    omega (arith, c.requires.watched.sized, index_below c.args.first c.args.self.now.trail.limit (all_has (λ (l : Literal). l.var < c.args.self.now.trail.limit) c.args.lits.now c.args.first c.requires.below pair.first))

pub list-requires-2 : goal.list-requires-2
list-requires-2 c =
    let pair = c.requires.pair c.if-lits-lt2.false in
    omega (arith, c.requires.watched.sized, ap length c.in_ok-list.ensures.lists, length-listed_more c.args.self.now.lists.items c.args.first c.watcher.result, index_below c.args.second c.args.self.now.trail.limit (all_has (λ (l : Literal). l.var < c.args.self.now.trail.limit) c.args.lits.now c.args.second c.requires.below pair.second))

pub returns-then-lits-lt2 : goal.returns-then-lits-lt2
returns-then-lits-lt2 c =
    adds_short c.args.self.now _ c.args.lits.now c.args.first c.args.second _ c.requires.watched c.requires.rising c.requires.below c.if-lits-lt2.true c.in_ok-push.ensures.ok c.in_ok-push-2.ensures.items refl refl refl

pub returns : goal.returns
returns c =
    let w = c.args.self.now in
    let two = c.requires.pair c.if-lits-lt2.false in
    let pair : IsPair c.args.lits.now (pair_of c.args.first c.args.second c.third-third.result) = record { first = two.first; second = two.second; apart = two.apart; third = c.third-third.ensures } in
    on_ok_weaker c.list-2.result (adds_long w _ c.list.new.self c.list-2.new.self c.args.lits.now c.args.first c.args.second _ _ _ c.requires.watched c.requires.rising c.requires.below c.if-lits-lt2.false pair (c.watcher.ensures.clause ∙ c.len-place.ensures.value) c.watcher.ensures.blocker (c.watcher-2.ensures.clause ∙ c.len-place.ensures.value) c.watcher-2.ensures.blocker c.watcher.ensures.rest c.watcher-2.ensures.rest c.in_ok-push.ensures.ok c.in_ok-push-2.ensures.items refl refl refl c.in_ok-list.ensures) c.list-2.ensures

pub watcher-requires-clause-pair : goal.watcher-requires-clause-pair
watcher-requires-clause-pair c = c.requires.pair c.if-lits-lt2.false

pub watcher-requires-2-clause-pair : goal.watcher-requires-2-clause-pair
watcher-requires-2-clause-pair c =
    let two = c.requires.pair c.if-lits-lt2.false in
    record { first = two.second; second = two.first; apart = λ e. two.apart (sym e); third = two.third }
