-- States one after another, followed in another case.
use Rattle.std.specs.Prelude.{⊤, ℕ, List, [], ◌∷◌, suc}
use Rattle.bd_model.specs.declared.table.Value.{Value}
use Rattle.bd_slice.specs.inner.Followed.{Other, FollowsState}
use Rattle.bd_slice.specs.declared.kept.Kept.{Kept}
use Rattle.bd_slice.specs.declared.line.StatePath.{StatePath}

-- each state is followed by the one at its place
abbrev pub FollowsEach : Other → List (List Kept) → (ℕ → List Value) → Type 0
FollowsEach o [] states = ⊤
FollowsEach o (ks ∷ rest) states =
    FollowsState o ks (states 0) × FollowsEach o rest (λ n. states (suc n))

-- the states passed are followed, and so is the last, which has this place
pub record FollowsLine (o : Other) (l : StatePath) (last : ℕ) (states : ℕ → List Value) :
    Type 0 where
  pub passed : FollowsEach o l.passed states
  pub end : FollowsState o l.end.items (states last)
