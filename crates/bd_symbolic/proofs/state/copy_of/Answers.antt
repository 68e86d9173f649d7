use Rattle.bd_symbolic.proofs.Cycles.{IfOk-copy}
use Rattle.bd_symbolic.proofs.state.copy_of.Goals as goal

pub returns : goal.returns
returns c = IfOk-copy _ _ c.args.ids.now c.clone.result (λ x y h. h) c.clone.ensures.cases
