-- What is asked of less and less of a case.
use Rattle.std.specs.Prelude.{◌≡◌, ◌<◌, ℕ, List, slice_get, slice_set, Some}
use Rattle.bd_model.specs.DesignView.{design_view}
use Rattle.bd_model.specs.Lawful.{IsLawful}
use Rattle.bd_shrink.specs.Remnant.{remnant}
use Rattle.bd_shrink.specs.Shrunk.{Shows, leaves}
use Rattle.bd_shrink.specs.inner.Found.{IsApart}
use Rattle.bd_shrink.specs.declared.fate.Fate.{Fate}
use Rattle.bd_shrink.specs.declared.search.ShrinkGoal.{ShrinkGoal}

-- the design is lawful, and what is known to differ in the case is what differs in it
abbrev pub IsKnown : ShrinkGoal → Type 0
IsKnown q =
    IsLawful (design_view q.design.now) × IsApart (design_view q.design.now) q.case.now q.apart.now

-- what the fates leave of the case shows what the case does
abbrev pub ShowsBy : ShrinkGoal → List Fate → Type 0
ShowsBy q fates = Shows (design_view q.design.now) q.case.now (remnant fates q.case.now) q.which

-- with less at this place it isn't shown
pub record IsLeast (q : ShrinkGoal) (fates : List Fate) (i : ℕ) : Type 0 where
  pub least : (f g : Fate) → slice_get fates i ≡ Some f → leaves g < leaves f →
      ¬ ShowsBy q (slice_set fates i g)

-- there is less at one place, and it is still shown
pub record IsLowered (q : ShrinkGoal) (fates less : List Fate) : Type 0 where
  pub place : ℕ
  pub old : Fate
  pub new : Fate
  pub had : slice_get fates place ≡ Some old
  pub lower : leaves new < leaves old
  pub set : less ≡ slice_set fates place new
  pub shows : ShowsBy q less
