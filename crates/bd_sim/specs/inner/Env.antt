-- What names stand for where an expression is valued, as clauses see it.
use Rattle.std.specs.Prelude.{◌++◌, map}
use Rattle.std.specs.List.{All}
use Rattle.bd_model.specs.Value.{Env}
use Rattle.bd_sim.specs.declared.value.Env as concrete
use Rattle.bd_sim.specs.inner.Writes.{kept_value, IsMade}

-- the lets whose values were handed in come first
abbrev pub env_view : concrete.Env → Env
env_view e = record {
  interp = e.interp.now;
  state = e.memories.state.now;
  inputs = e.inputs.now;
  locals = e.memories.given.now ++ map (kept_value e.memories) e.lets.items;
}

-- each let rests on writes that were made
abbrev pub IsMadeWhole : concrete.Env → Type 0
IsMadeWhole e = All (IsMade e.memories) e.lets.items
