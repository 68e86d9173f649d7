use Rattle.std.proofs.Common.{◌≡◌, ◌++◌, map, drop}
use Rattle.bd_sim.specs.inner.Env.{env_view}
use Rattle.bd_sim.specs.inner.Writes.{kept_value}
use Rattle.bd_sim.proofs.value.Env.let_values.Given as goal

abbrev pub invariant-loop-kept : goal.invariant-loop-kept
invariant-loop-kept l =
    l.values.items ++ map (kept_value l.self.memories) (drop l.kept-index l.kept-items) ≡ (env_view l.self).locals
