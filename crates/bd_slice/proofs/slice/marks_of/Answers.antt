use Rattle.std.proofs.Common.{IsTrue, rules}
use Rattle.bd_slice.proofs.slice.marks_of.Goals as goal

pub returns-then-stands-clause-stands : goal.returns-then-stands-clause-stands
returns-then-stands-clause-stands c =
    let yes : IsTrue c.stands.result = search rules in
    rw c.as_slice-then-has-2.ensures.value at (c.stands.ensures yes)
