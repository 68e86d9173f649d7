use Rattle.std.proofs.Common.{sym}
use Rattle.std.proofs.lemmas.Result.{err_from_is_err_and}
use Rattle.bd_typer.specs.declared.fault.Text.TheVariants.{Spec}
use Rattle.bd_typer.specs.Joined.{joined_onto}
use Rattle.bd_typer.specs.inner.Held.{machine_view}
use Rattle.bd_typer.proofs.Files.{located_gives, given_is, given_fails}
use Rattle.bd_typer.proofs.joining.joined_onto.Goals as goal

pub returns-in_err-spec : goal.returns-in_err-spec
unfolding joined_onto
returns-in_err-spec c =
    let p = err_from_is_err_and c.from_residual.result c.from_residual.ensures.1 in
    let all = c.typed_machine-typed.new.symbols in
    let gives = located_gives (λ m. machine_view m all) Spec c.typed_machine-typed.result _ c.typed_machine-typed.ensures.exact in
    rw (p.1, p.2) (given_fails (λ m. machine_view m all) _ c.in_err-spec.field-0.0 _ _ gives (sym c.in_err-spec.ensures))

pub returns : goal.returns
unfolding joined_onto
returns c =
    let all = c.typed_machine-typed.new.symbols in
    let gives = located_gives (λ m. machine_view m all) Spec c.typed_machine-typed.result _ c.typed_machine-typed.ensures.exact in
    let spec-is = given_is (λ m. machine_view m all) _ c.in_ok-spec.spec _ gives (sym c.in_ok-spec.ensures) in
    rw spec-is (c.joined_machines.ensures c.args.symbols)
