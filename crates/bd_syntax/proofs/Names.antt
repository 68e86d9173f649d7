-- The test of names says what a name is.
use Rattle.std.proofs.Common.{◌≡◌, ℕ, ◌≤◌, true, leb, List, length, refl, arith}
use Rattle.std.specs.Prelude.{not, ◌&&◌, nat_eq, nat_le}
use Rattle.std.specs.List.{list_any}
use lib.Pointwise.{pointwise}
use Rattle.std.proofs.lemmas.Bool.{leb-true, not-true}
use Rattle.std.proofs.lemmas.Bool.Decides.{nat_tests}
use Rattle.bd_model.specs.Name.{IsName, spells_name, keywords}
use Rattle.bd_syntax.specs.Name.{is_name}
use Rattle.bd_syntax.proofs.Results.{split_and}

pub is_name-true : (text : List ℕ) → is_name text ≡ true → IsName text
is_name-true text h =
    let among = list_any (pointwise nat_eq text) keywords in
    let p = split_and (spells_name text && nat_le (length text) 64) (not among) h in
    let q = split_and (spells_name text) (nat_le (length text) 64) p.0 in
    record { spelled = q.0; short = leb-true _ _ q.1; no_keyword = not-true among p.1 }

leb-holds : (n m : ℕ) → n ≤ m → leb n m ≡ true
leb-holds n m h = grind (arith, nat_tests)

pub is_name-IsName : (text : List ℕ) → IsName text → is_name text ≡ true
is_name-IsName text name = rw (name.spelled, leb-holds (length text) 64 name.short, name.no_keyword) refl
