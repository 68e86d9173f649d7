use Rattle.std.proofs.Common.{refl, sym}
use Rattle.std.proofs.lemmas.Result.{err_from_is_err_and}
use Rattle.bd_model.specs.Abstraction.{abstraction_view}
use Rattle.bd_typer.specs.declared.fault.Text.TheVariants.{Comp}
use Rattle.bd_typer.specs.Joined.{claimed}
use Rattle.bd_typer.proofs.Files.{fails_then, located_gives, given_is, given_fails}
use Rattle.bd_typer.proofs.joining.claimed.Goals as goal

pub returns-in_err-abs : goal.returns-in_err-abs
unfolding claimed
returns-in_err-abs c =
    let p = err_from_is_err_and c.from_residual.result c.from_residual.ensures.1 in
    let gives = located_gives abstraction_view Comp c.typed_completion-typed.result _ (rw c.len.ensures at c.typed_completion-typed.ensures) in
    rw (p.1, p.2) (given_fails abstraction_view _ c.in_err-abs.field-0.0 _ _ gives (sym c.in_err-abs.ensures))

pub returns-in_err-inv : goal.returns-in_err-inv
unfolding claimed
returns-in_err-inv c =
    let p = err_from_is_err_and c.from_residual-in_err-inv.result c.from_residual-in_err-inv.ensures.1 in
    let gives = located_gives abstraction_view Comp c.typed_completion-typed.result _ (rw c.len.ensures at c.typed_completion-typed.ensures) in
    let abs-is = given_is abstraction_view _ c.in_ok-abs.abs _ gives (sym c.in_ok-abs.ensures) in
    rw (p.1, p.2, abs-is) (fails_then c.in_err-inv.field-0.0 _ _ c.in_err-inv.ensures)

pub returns : goal.returns
unfolding claimed
returns c =
    let gives = located_gives abstraction_view Comp c.typed_completion-typed.result _ (rw c.len.ensures at c.typed_completion-typed.ensures) in
    let abs-is = given_is abstraction_view _ c.in_ok-abs.abs _ gives (sym c.in_ok-abs.ensures) in
    rw (abs-is, c.in_ok-inv.ensures) refl
