use Rattle.std.proofs.Common.{◌≡◌, ◌++◌, drop}
use Rattle.bd_model.specs.DesignView.{design_view}
use Rattle.bd_app.specs.Run.{cycles_text}
use Rattle.bd_app.proofs.command.run.states_text.Given as goal

-- the text so far, and that of the states that are left
abbrev pub invariant-loop-cycle : goal.invariant-loop-cycle
invariant-loop-cycle l = l.text.items ++ cycles_text (design_view l.design) l.cycle (drop l.cycle l.states) ≡ cycles_text (design_view l.design) 0 l.states
