use Rattle.std.proofs.Common.{◌≡◌, ◌+◌, ◌++◌, ◌∷◌, [], take, drop, sym, ap, ◌∙◌, subst}
use Rattle.bd_lift.proofs.Cutting.{IsLeft, left-more}
use Rattle.bd_lift.proofs.lifting.cut.Goals as goal

pub loop-preserved : goal.loop-preserved
loop-preserved c =
    let inputs = c.args.inputs.now in
    let rest = c.loop.rest.now in
    let content : c.from_vec.result ≡ take c.args.width rest = c.from_vec.ensures ∙ c.in_ok-to_vec.ensures.items_if_clones_equal (λ x y e. e) ∙ c.split_at.ensures.front in
    subst (λ r. IsLeft (c.loop.counter + 1) c.args.cycles c.args.width inputs c.push.new.self.items r) (sym c.split_at.ensures.back)
    (subst (λ l. IsLeft (c.loop.counter + 1) c.args.cycles c.args.width inputs l (drop c.args.width rest)) (sym (c.in_ok-push.ensures.items ∙ ap (λ v. c.loop.lists.items ++ v ∷ []) content))
    (left-more c.loop.counter c.args.cycles c.args.width inputs c.loop.lists.items rest c.loop-test.true c.loop.invariant))
