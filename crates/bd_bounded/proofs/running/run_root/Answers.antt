use Rattle.std.proofs.Common.{subst}
use Rattle.bd_model.specs.DesignView.{design_view}
use Rattle.bd_symbolic.specs.Widened.{widened}
use Rattle.bd_goal.specs.Symbols.{ReachesKnown}
use Rattle.bd_bounded.proofs.running.run_root.Goals as goal

pub returns : goal.returns
returns c =
    let d = design_view c.args.design.now in
    let h = c.in_ok-goal.ensures in
    record {
      sorted = h.sorted;
      claims = h.denotes;
      made = h.made;
      known = subst (λ n. ReachesKnown (widened d c.args.cycles) n c.bounded_goal.new.graph c.in_ok-goal.goal.root) h.addresses h.symbols;
    }
