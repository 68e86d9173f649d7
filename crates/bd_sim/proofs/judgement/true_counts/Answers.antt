use Rattle.std.proofs.Common.{◌≡◌, ◌++◌, map, sym, ap, subst, ◌∙◌}
use Rattle.std.proofs.lemmas.List.{append-nil, drop_all}
use Rattle.bd_model.specs.DesignView.{exact_view}
use Rattle.bd_sim.specs.ExactCounts.{counts_in}
use Rattle.bd_sim.specs.inner.Env.{env_view}
use Rattle.bd_sim.proofs.ExactItems.{counted_true, counted_false}
use Rattle.bd_sim.proofs.judgement.true_counts.Goals as goal
use Rattle.bd_sim.proofs.judgement.true_counts.Goals.{then-branch+in_ok-push, else-branch}

pub loop-item-preserved : goal.loop-item-preserved
loop-item-preserved c =
    elim c.if-branch.branch [
      | then-branch+in_ok-push w ↦
          counted_true (env_view c.args.env.now) c.args.items.now c.loop-item.item-index c.item-item.result _ _ _ c.loop-item-test.true c.item-item.is c.loop-item.invariant
          (sym c.in_ok-truth.ensures ∙ w.if-branch.true) (ap (λ v. v.items) w.counts-is ∙ w.in_ok-push.ensures.items)
      | else-branch w ↦
          counted_false (env_view c.args.env.now) c.args.items.now c.loop-item.item-index c.item-item.result _ _ _ c.loop-item-test.true c.item-item.is c.loop-item.invariant
          (sym c.in_ok-truth.ensures ∙ w.if-branch.false) (ap (λ v. v.items) w.counts-is)
    ]

pub returns : goal.returns
returns c =
    let past = subst (λ es. c.loop-item.counts.items ++ counts_in (env_view c.args.env.now) (map exact_view es) ≡ counts_in (env_view c.args.env.now) (map exact_view c.args.items.now)) (drop_all c.loop-item.item-index c.args.items.now c.loop-item-test.false) c.loop-item.invariant in
    sym (append-nil c.loop-item.counts.items) ∙ past
