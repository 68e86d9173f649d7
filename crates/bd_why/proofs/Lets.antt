-- The values of lets within the limits are within them.
use Rattle.std.proofs.Common.{◌≡◌, ℕ, zero, suc, ◌<◌, List, [], ◌∷◌, map, length, get_or, sym, subst, arith}
use Rattle.std.specs.List.{AllByRecursion}
use Rattle.bd_model.specs.DesignView.{LocalView, local_view}
use Rattle.bd_model.specs.Lawful.{IsWithinLimits}
use Rattle.bd_model.specs.declared.design.Local.{Local}

-- a let of a list of them
pub let_within : (ls : List Local) (i : ℕ) (l : Local) → AllByRecursion (λ (v : LocalView). IsWithinLimits v.value) (map local_view ls) → i < length ls → l ≡ get_or ls i l → IsWithinLimits ((local_view l).value)
let_within [] i l h within is = absurd (omega (arith, within))
let_within (k ∷ ks) zero l h within is = subst (λ x. IsWithinLimits ((local_view x).value)) (sym is) h.0
let_within (k ∷ ks) (suc i) l h within is = let_within ks i l h.1 (omega (arith, within)) is
