use Rattle.std.proofs.Common.{◌≡◌, ◌++◌, map, drop, get_or}
use Rattle.bd_symbolic.proofs.visible.project.Given as goal

abbrev pub invariant-loop-place : goal.invariant-loop-place
invariant-loop-place l = l.entries.items ++ map (λ i. get_or l.state.entries i 0) (drop l.place-index l.place-items) ≡ map (λ i. get_or l.state.entries i 0) l.design.visible
