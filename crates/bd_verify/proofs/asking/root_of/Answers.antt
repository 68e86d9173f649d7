use Rattle.bd_model.specs.DesignView.{design_view}
use Rattle.bd_verify.proofs.RootDecides.{root-breaks, root-meets}
use Rattle.bd_verify.proofs.asking.root_of.Goals as goal

pub returns-in_ok-goal-in-Breaks : goal.returns-in_ok-goal-in-Breaks
returns-in_ok-goal-in-Breaks c =
    let d = design_view c.args.design.now in
    let found = c.in_ok-goal-in-Breaks.goal in
    let h = c.in_ok-goal-in-Breaks.ensures in
    root-breaks d c.args.asked c.goal.new.graph found.root found.addresses c.in-Breaks.is h.sorted h.denotes h.made h.addresses h.symbols

pub returns-in-Meets : goal.returns-in-Meets
returns-in-Meets c =
    root-meets (design_view c.args.design.now) c.args.asked c.meets.new.graph c.in-Meets.is c.meets.result c.meets.ensures.sorted c.meets.ensures.denotes c.meets.ensures.made c.meets.ensures.symbols
