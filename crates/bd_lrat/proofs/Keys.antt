-- Ids as keys of a finite map.
use Rattle.std.proofs.Common.{◌≡◌, ℕ, eqb, arith}
use Rattle.std.specs.Ordering.{nat_cmp, eq_by_cmp}
use Rattle.std.proofs.lemmas.Bool.Decides.{nat_tests}

-- keys that are numbers tie where they are equal
pub tied : (q k : ℕ) → eq_by_cmp nat_cmp q k ≡ eqb q k
tied q k = grind (arith, nat_tests)
