use Rattle.std.proofs.Common.{◌≡◌, arith, get_or, subst, sym}
use Rattle.bd_cnf.specs.Literal.{Literal}
use Rattle.bd_cnf.proofs.Opens.{two_open}
use Rattle.bd_lrat.proofs.propagation.status.Goals as goal

pub returns-then-is_some : goal.returns-then-is_some
returns-then-is_some c =
    let clause = c.args.clause.now in
    let i = c.loop-packed.packed-index in
    let is : c.lit-lit.result ≡ get_or clause i c.lit-lit.result = subst (λ (l : Literal). l ≡ get_or clause i l) (sym c.lit-lit.ensures) c.packed-item.is in
    two_open c.args.trail.now.literals clause i c.lit-lit.result c.loop-packed.found (omega arith) is (sym c.if-is_false.ensures) c.loop-packed.invariant (sym c.if-is_some.ensures)
