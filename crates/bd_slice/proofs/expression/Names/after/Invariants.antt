use Rattle.std.proofs.Common.{◌≡◌, List, map, take}
use Rattle.bd_model.specs.DesignView.{local_view}
use Rattle.bd_model.specs.Value.{let_values}
use Rattle.bd_model.specs.declared.table.Scalar.{Scalar}
use Rattle.bd_model.specs.declared.table.Value.{Value}
use Rattle.bd_slice.specs.inner.Followed.{Other, Holds, Grows, FollowsState, FollowsInputs}
use Rattle.bd_slice.specs.inner.Env.{FollowsNames}
use Rattle.bd_slice.proofs.expression.Names.after.Given as goal

abbrev pub invariant-loop-local : goal.invariant-loop-local
invariant-loop-local l = record {
  grows : Grows l.fn.graph.nodes l.graph.nodes;
  case : l.names.case.now ≡ l.case;
  follows : (o : Other) (values : List Value) (given : List Scalar) → Holds l.case l.graph.nodes o → FollowsState o l.state values → FollowsInputs o l.inputs given
      → FollowsNames o l.names
      (record { interp = o.case.interp; state = values; inputs = given; locals = let_values o.case.interp values given (map local_view (take l.local-index l.locals)) });
}
