use Rattle.std.proofs.Common.{[], ap, ◌∙◌, false, map, length}
use Rattle.bd_model.specs.DesignView.{design_view}
use Rattle.bd_model.specs.declared.table.Scalar.TheVariants as scalar
use Rattle.bd_symbolic.specs.Widened.{widened}
use Rattle.bd_function.specs.Tables.{world_of_tables}
use Rattle.bd_lift.specs.inner.Built.{functions_of, scalar_as, state_of}
use Rattle.bd_lift.proofs.Repeating.{blank-numbered}
use Rattle.bd_lift.proofs.build.blank.Goals as goal

pub returns : goal.returns
returns c = λ cycles same. record {
  functions = c.in_ok-interp.ensures ∙ ap (functions_of (length c.args.vertices.now) (world_of_tables [])) c.as_slice.ensures;
  entries = c.in_ok-state.ensures ∙ ap (state_of (world_of_tables [])) c.as_slice-2.ensures;
  ports = c.in_ok-inputs.ensures ∙ ap (map (λ s. scalar_as s (scalar.Bool false))) same ∙ blank-numbered 0 (widened (design_view c.args.design.now) cycles).pipe.ports;
}
