use Rattle.std.proofs.Common.{◌≡◌, ◌↔◌, Bool, Result, IfOk, IsTrue}
use Rattle.std.specs.declared.alloc.AllocError.{AllocError}
use Rattle.bd_model.specs.DesignView.{DesignView}
use Rattle.bd_model.specs.declared.case.Case.{Case}
use Rattle.bd_model.specs.declared.case.Condition.{Condition}
use Rattle.bd_shrink.specs.Shrunk.{Shows}
use Rattle.bd_model.specs.DesignView.{design_view}
use Rattle.bd_shrink.proofs.search.shows_by.Goals as goal

same_case : (d : DesignView) (whole c e : Case) (which : Condition) (r : Result Bool AllocError) → c ≡ e → IfOk r (λ b. IsTrue b ↔ Shows d whole c which) → IfOk r (λ b. IsTrue b ↔ Shows d whole e which)
same_case d whole c e which r same h = rw same at h

pub returns : goal.returns
returns c = same_case (design_view c.args.question.now.design.now) c.args.question.now.case.now _ _ c.args.question.now.which _ c.in_ok-left.ensures c.shows.ensures
