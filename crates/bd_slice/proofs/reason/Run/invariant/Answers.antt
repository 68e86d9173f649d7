use Rattle.std.proofs.Common.{refl}
use Rattle.bd_model.specs.DesignView.{local_view}
use Rattle.bd_slice.proofs.Accounting.{invariant_reason, view_count}
use Rattle.bd_slice.proofs.reason.Run.invariant.Goals as goal

pub returns : goal.returns
returns c = λ history has. invariant_reason _ _ _ _ (view_count local_view _ _ _ c.len-count.ensures refl) (c.in_ok-found.ensures history has)
