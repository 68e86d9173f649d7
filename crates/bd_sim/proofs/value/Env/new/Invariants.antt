use Rattle.std.proofs.Common.{◌≡◌, map, drop}
use Rattle.bd_list.specs.Grown.{grown}
use Rattle.bd_model.specs.DesignView.{local_view}
use Rattle.bd_model.specs.Value.{let_value, env_of}
use Rattle.bd_sim.specs.inner.Env.{env_view, IsMadeWhole}
use Rattle.bd_sim.proofs.value.Env.new.Given as goal

abbrev pub invariant-loop-local : goal.invariant-loop-local
invariant-loop-local l =
    IsMadeWhole l.env
    × (record (env_view l.env) { locals = grown (let_value (env_view l.env).interp (env_view l.env).state (env_view l.env).inputs) (env_view l.env).locals (map local_view (drop l.local-index l.locals)) }
    ≡ env_of (map local_view l.locals) l.interp l.state l.inputs)
