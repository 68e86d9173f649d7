-- What names stand for in another case.
use Rattle.std.specs.Prelude.{◌≡◌, List}
use Rattle.bd_model.specs.ExprView.{ExprView}
use Rattle.bd_model.specs.Value.{Env, value_of, scalar_of}
use Rattle.bd_slice.specs.inner.Followed.{Other, Holds, Follows, FollowsKept, FollowsState, FollowsInputs}
use Rattle.bd_slice.specs.declared.graph.SupportNode.{SupportNode}
use Rattle.bd_slice.specs.declared.kept.Traced.{Traced}
use Rattle.bd_slice.specs.declared.kept.Kept.{Kept}
use Rattle.bd_slice.specs.declared.expression.Names as concrete

-- the names of the other case stand for what those of this one do, where the slice has it
pub record FollowsNames (o : Other) (n : concrete.Names) (env : Env) : Type 0 where
  pub interp : env.interp ≡ o.case.interp
  pub state : FollowsState o n.state.now env.state
  pub inputs : FollowsInputs o n.inputs.now env.inputs
  pub locals : FollowsState o n.lets.items env.locals

-- a fact of each other case that these nodes hold of
abbrev pub InOthers : List SupportNode → concrete.Names → (Other → Env → Type 0) → Type 0
InOthers nodes n P =
    (o : Other) (env : Env) → Holds n.case.now nodes o → FollowsNames o n env → P o env

abbrev pub Traces : List SupportNode → concrete.Names → ExprView → Kept → Type 0
Traces nodes n e k = InOthers nodes n (λ o env. FollowsKept o k (value_of env e))

abbrev pub TracesScalar : List SupportNode → concrete.Names → ExprView → Traced → Type 0
TracesScalar nodes n e t = InOthers nodes n (λ o env. Follows o t (scalar_of (value_of env e)))
