use Rattle.std.proofs.Common.{subst, sym}
use Rattle.bd_model.specs.DesignView.{design_view}
use Rattle.bd_slice.specs.History.{HasSubject}
use Rattle.bd_slice.proofs.Collecting.{collected_all, collected_more, collected_none}
use Rattle.bd_slice.proofs.reason.reasons_of.Goals as goal

pub loop-place-init : goal.loop-place-init
loop-place-init c = collected_none _ _ _ _ c.new.ensures.items c.in_ok-asked.ensures

pub loop-place-preserved : goal.loop-place-preserved
loop-place-preserved c = collected_more _ _ _ _ _ _ _ _ _ (sym c.in-Some.ensures) c.in_ok-reason-in-Some.ensures.subject
    (λ history has. c.in_ok-reason-in-Some.ensures.reason history (subst (HasSubject (design_view c.args.design.now)) c.in_ok-reason-in-Some.ensures.subject has))
    c.in_ok-add-in-Some.ensures.front c.in_ok-add-in-Some.ensures.closed c.in_ok-add-in-Some.ensures.items c.loop-place.invariant

pub returns-in-None : goal.returns-in-None
returns-in-None c = λ history. collected_all _ _ _ _ _ _ c.loop-place.place c.loop-place.invariant (sym c.in-None.ensures) (λ r given has. given history has)
