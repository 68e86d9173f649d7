use Rattle.std.proofs.Common.{map}
use Rattle.bd_model.specs.DesignView.{ExactView, design_view}
use Rattle.bd_model.specs.declared.design.Sort.TheVariants as sort
use Rattle.bd_symbolic.specs.States.{port_sorts}
use Rattle.bd_goal.proofs.Named.{Gathers}
use Rattle.bd_goal.proofs.commute.conditions.Given as goal

abbrev pub invariant-loop-exact : goal.invariant-loop-exact
invariant-loop-exact l =
    let d = design_view l.design in
    Gathers d (port_sorts d.pipe) l.fn.graph l.graph l.state d.pipe.locals l.lets-inside.items.items (map (λ (e : ExactView). sort.Bool) d.exact) (map (λ (e : ExactView). e.when) d.exact) l.exact-index l.whens.items
