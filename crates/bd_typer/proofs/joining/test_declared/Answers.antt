use Rattle.std.proofs.Common.{sym}
use Rattle.std.proofs.lemmas.Result.{err_from_is_err_and}
use Rattle.bd_typer.specs.declared.fault.Text.TheVariants.{Pipe, Spec, Comp}
use Rattle.bd_typer.specs.Joined.{declared}
use Rattle.bd_typer.proofs.Files.{located_gives, given_is, given_fails}
use Rattle.bd_typer.proofs.joining.test_declared.Goals as goal

pub returns-in_err-located : goal.returns-in_err-located
unfolding declared
returns-in_err-located c =
    let p = err_from_is_err_and c.from_residual.result c.from_residual.ensures.1 in
    let gives-pipe = located_gives (λ _. tt {0}) Pipe c.test_machine.result _ c.test_machine.ensures in
    rw (p.1, p.2) (given_fails (λ _. tt {0}) _ c.in_err-located.field-0.0 _ _ gives-pipe (sym c.in_err-located.ensures))

pub returns-in_err-located-2 : goal.returns-in_err-located-2
unfolding declared
returns-in_err-located-2 c =
    let p = err_from_is_err_and c.from_residual-in_err-located-2.result c.from_residual-in_err-located-2.ensures.1 in
    let gives-pipe = located_gives (λ _. tt {0}) Pipe c.test_machine.result _ c.test_machine.ensures in
    let pipe-is = given_is (λ _. tt {0}) _ c.in_ok-located.field-0 _ gives-pipe (sym c.in_ok-located.ensures) in
    let gives-spec = located_gives (λ _. tt {0}) Spec c.test_machine-2.result _ c.test_machine-2.ensures in
    rw (p.1, p.2, pipe-is) (given_fails (λ _. tt {0}) _ c.in_err-located-2.field-0.0 _ _ gives-spec (sym c.in_err-located-2.ensures))

pub returns-in_err-located-3 : goal.returns-in_err-located-3
unfolding declared
returns-in_err-located-3 c =
    let p = err_from_is_err_and c.from_residual-in_err-located-3.result c.from_residual-in_err-located-3.ensures.1 in
    let gives-pipe = located_gives (λ _. tt {0}) Pipe c.test_machine.result _ c.test_machine.ensures in
    let pipe-is = given_is (λ _. tt {0}) _ c.in_ok-located.field-0 _ gives-pipe (sym c.in_ok-located.ensures) in
    let gives-spec = located_gives (λ _. tt {0}) Spec c.test_machine-2.result _ c.test_machine-2.ensures in
    let spec-is = given_is (λ _. tt {0}) _ c.in_ok-located-2.field-0 _ gives-spec (sym c.in_ok-located-2.ensures) in
    let gives-comp = located_gives (λ _. tt {0}) Comp c.test_given.result _ c.test_given.ensures in
    rw (p.1, p.2, pipe-is, spec-is) (given_fails (λ _. tt {0}) _ c.in_err-located-3.field-0.0 _ _ gives-comp (sym c.in_err-located-3.ensures))
