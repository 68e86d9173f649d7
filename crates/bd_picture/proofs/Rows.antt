-- Cells under headings, one by one.
use Rattle.std.proofs.Common.{◌≡◌, ℕ, ◌+◌, ◌<◌, List, [], ◌∷◌, ◌++◌, length, take, get_or, subst}
use Rattle.std.specs.List.{AllZip}
use Rattle.std.proofs.lemmas.List.{take_more}
use Rattle.bd_model.proofs.Pairs.{AllZip-append}

-- one cell more, under the heading at its place
pub under_more : {A B : Type 0} (R : A → B → Type 0) (xs : List A) (done new : List B) (i : ℕ) (x : A) (y : B) → i < length xs → x ≡ get_or xs i x → AllZip R (take i xs) done → new ≡ done ++ y ∷ [] → R x y → AllZip R (take (i + 1) xs) new
under_more {A} {B} R xs done new i x y within is before put here =
    let more = take_more xs i x within in
    rw (put, more) (AllZip-append R (take i xs) done (get_or xs i x) y before (subst (λ (z : A). R z y) is here))
