use Rattle.bd_typer.proofs.declarations.taken_twice.Goals as goal

pub returns : goal.returns
returns c =
    let first = rw (c.new-taken.ensures, c.as_slice.ensures) at c.in_ok-scan.ensures.set in
    let second = rw (first, c.as_slice-2.ensures) at c.in_ok-scan-2.ensures.set in
    rw second at c.in_ok-scan-3.ensures.repeated
