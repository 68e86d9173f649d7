-- What marking says of a machine's lets.
use Rattle.std.specs.Prelude.{◌≡◌, ◌↔◌, ◌<◌, ◌++◌, ℕ, zero, suc, Bool, true, List, [], ◌∷◌, slice_get, Some, if◌then◌else◌}
use Rattle.bd_model.specs.DesignView.{LocalView}
use Rattle.bd_model.specs.ExprView.{ExprView}
use Rattle.bd_about.specs.Named.{any_of, names}
use Rattle.bd_about.specs.Marked.{is_marked}
use Rattle.bd_about.specs.Reached.{IsReached}
use Rattle.bd_about.specs.declared.named.Named.{Named}
use Rattle.bd_about.specs.declared.named.Named.TheVariants as named
use Rattle.bd_about.specs.declared.marks.NameMarks.{NameMarks}

-- what the expressions name is marked
pub record AreMarked (roots : List ExprView) (m : NameMarks) : Type 0 where
  pub each : (x : Named) → is_marked m x ≡ any_of x roots

-- what they reach is marked
pub record AreReached (roots : List ExprView) (lets : List LocalView) (m : NameMarks) : Type 0 where
  pub each : (x : Named) → (is_marked m x ≡ true) ↔ IsReached roots lets x

-- where what expressions name was marked, what they reach is
pub record LeadsOn (lets : List LocalView) (old new : NameMarks) : Type 0 where
  pub each : (roots : List ExprView) → AreMarked roots old → AreReached roots lets new

-- each let names earlier lets alone
pub record UseEarlier (lets : List LocalView) : Type 0 where
  pub each : (i j : ℕ) (l : LocalView) → slice_get lets j ≡ Some l →
      names (named.Local i) l.value ≡ true → i < j

-- the numbers below a count that don't pass a test
abbrev pub unset_below : (ℕ → Bool) → ℕ → List ℕ
unset_below p zero = []
unset_below p (suc n) = if p n then unset_below p n else unset_below p n ++ n ∷ []
