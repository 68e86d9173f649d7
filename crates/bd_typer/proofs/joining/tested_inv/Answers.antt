use Rattle.std.proofs.Common.{refl, sym}
use Rattle.std.proofs.lemmas.Result.{err_from_is_err_and}
use Rattle.bd_typer.specs.declared.fault.Text.TheVariants.{Inv, Spec}
use Rattle.bd_typer.specs.Joined.{tested_inv}
use Rattle.bd_typer.specs.inner.Held.{inv_view}
use Rattle.bd_typer.proofs.Files.{located_gives, given_is, given_fails}
use Rattle.bd_typer.proofs.joining.tested_inv.Goals as goal

pub returns-in_err-inv : goal.returns-in_err-inv
unfolding tested_inv
returns-in_err-inv c =
    let p = err_from_is_err_and c.from_residual.result c.from_residual.ensures.1 in
    let gives = located_gives inv_view Inv c.typed_inv.result _ c.typed_inv.ensures in
    rw (p.1, p.2) (given_fails inv_view _ c.in_err-inv.field-0.0 _ _ gives (sym c.in_err-inv.ensures))

pub returns-in_err-located : goal.returns-in_err-located
unfolding tested_inv
returns-in_err-located c =
    let p = err_from_is_err_and c.from_residual-in_err-located.result c.from_residual-in_err-located.ensures.1 in
    let gives = located_gives inv_view Inv c.typed_inv.result _ c.typed_inv.ensures in
    let inv-is = given_is inv_view _ c.in_ok-inv.inv _ gives (sym c.in_ok-inv.ensures) in
    let gives-across = located_gives (λ _. tt {0}) Spec c.test_across.result _ c.test_across.ensures in
    rw (p.1, p.2, inv-is) (given_fails (λ _. tt {0}) _ c.in_err-located.field-0.0 _ _ gives-across (sym c.in_err-located.ensures))

pub returns : goal.returns
unfolding tested_inv
returns c =
    let gives = located_gives inv_view Inv c.typed_inv.result _ c.typed_inv.ensures in
    let inv-is = given_is inv_view _ c.in_ok-inv.inv _ gives (sym c.in_ok-inv.ensures) in
    let gives-across = located_gives (λ _. tt {0}) Spec c.test_across.result _ c.test_across.ensures in
    let across-is = given_is (λ _. tt {0}) _ c.in_ok-located.field-0 _ gives-across (sym c.in_ok-located.ensures) in
    rw (inv-is, across-is) refl
