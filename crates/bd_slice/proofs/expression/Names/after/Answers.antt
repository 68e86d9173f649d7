use Rattle.std.proofs.Common.{◌<◌, ◌≤◌, length, refl, arith}
use Rattle.std.proofs.lemmas.List.{take_all}
use Rattle.bd_slice.specs.inner.Followed.{FollowsKept}
use Rattle.bd_slice.proofs.Cycles.{AllZip-push, let_more}
use Rattle.bd_slice.proofs.expression.Names.after.Goals as goal

pub loop-local-preserved : goal.loop-local-preserved
loop-local-preserved c =
    let locals = c.args.locals.now in
    let within : c.loop-local.local-index < length locals = omega arith in
    record {
      grows = λ d o h. c.loop-local.invariant.grows d o (c.in_ok-next.ensures.grows d o h);
      case = c.loop-local.invariant.case;
      follows = λ o values given h f g.
          let names = c.loop-local.invariant.follows o values given (c.in_ok-next.ensures.grows c.args.case.now o h) f g in
          let next = c.in_ok-next.ensures.follows o _ (rw c.loop-local.invariant.case h) names in
          let more = let_more o.case.interp values given locals c.loop-local.local-index c.local-item.result within c.local-item.is in
          record {
            interp = refl;
            state = names.state;
            inputs = names.inputs;
            locals = rw (more, c.in_ok-push.ensures.items) (AllZip-push (FollowsKept o) _ _ _ _ names.locals next);
          };
    }

pub returns-clause-follows : goal.returns-clause-follows
returns-clause-follows c = λ o values given h f g.
    let past : length c.args.locals.now ≤ c.loop-local.local-index = omega arith in
    let all = take_all c.loop-local.local-index c.args.locals.now past in
    rw all at (c.loop-local.invariant.follows o values given h f g)
