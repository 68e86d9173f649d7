use Rattle.std.proofs.Common.{map, drop}
use Rattle.bd_model.specs.DesignView.{design_view, local_view}
use Rattle.bd_symbolic.proofs.Gathering.{LetsDone}
use Rattle.bd_symbolic.proofs.lets.sym_lets.Given as goal

abbrev pub invariant-loop-local : goal.invariant-loop-local
invariant-loop-local l = LetsDone (design_view l.design) l.fn.graph l.graph l.state (map local_view l.locals) (map local_view (drop l.local-index l.local-items)) l.lets
