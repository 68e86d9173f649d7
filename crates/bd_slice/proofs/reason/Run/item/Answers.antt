use Rattle.bd_model.specs.DesignView.{design_view}
use Rattle.bd_slice.proofs.reason.Run.item.Goals as goal

pub returns-in_ok-found-in-Some : goal.returns-in_ok-found-in-Some
returns-in_ok-found-in-Some c = λ history has. c.in_ok-found-in-Some.ensures (design_view c.args.self.design.now) (c.in-Some.ensures.there _ _ history)

pub returns-in-None : goal.returns-in-None
returns-in-None c = λ history has. absurd (c.in-None.ensures.past _ _ history has)
