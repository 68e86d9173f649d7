use Rattle.std.proofs.Common.{map, sym, subst}
use Rattle.std.specs.List.{AllByRecursion}
use Rattle.bd_model.specs.DesignView.{LocalView, local_view}
use Rattle.bd_model.specs.Lawful.{IsWithinLimits}
use Rattle.bd_why.proofs.Lets.{let_within}
use Rattle.bd_why.proofs.trial.changed_lets.Goals as goal

pub eval-requires : goal.eval-requires
eval-requires c = record {
  limits = let_within c.as_slice-local-items.result.now c.loop-local.local-index c.local-item.result
      (subst (λ ls. AllByRecursion (λ (l : LocalView). IsWithinLimits l.value) (map local_view ls)) (sym c.as_slice-local-items.ensures) c.requires.let_limits)
      c.loop-local-test.true c.local-item.is;
}
