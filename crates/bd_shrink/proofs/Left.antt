-- What is left of the items of a list, found one after another.
use Rattle.std.proofs.Common.{◌≡◌, List, ◌++◌}
use Rattle.bd_shrink.specs.Remnant.{each_left, after_each}
use Rattle.bd_shrink.specs.declared.fate.Fate.{Fate}

-- what is left of the items so far, and what is left of the rest by the fates that come next, is what is left of all
pub record IsLeft {X : Type 0} (left : List Fate → X → List X) (after : List Fate → X → List Fate) (first : List Fate) (all out : List X) (fates : List Fate) (rest : List X) : Type 0 where
  pub items : out ++ each_left left after fates rest ≡ each_left left after first all
  pub ends : after_each after fates rest ≡ after_each after first all
