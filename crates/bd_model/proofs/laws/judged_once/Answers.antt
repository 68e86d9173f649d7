use Rattle.std.proofs.Common.{refl}
use Rattle.bd_model.specs.Laws.{JudgedOnce}
use Rattle.bd_model.specs.declared.case.Condition.TheVariants.{Invariant, Commute}
use Rattle.bd_model.specs.declared.case.Judged.TheVariants.{Holds, Outside, Broken}
use Rattle.bd_model.proofs.laws.judged_once.Goals as goal

once : JudgedOnce
once d abs c Holds Holds x y = refl
once d abs c Holds Outside x y = absurd (y x.0)
once d abs c Holds (Broken Invariant) x y = absurd (y.1 x.1)
once d abs c Holds (Broken Commute) x y = absurd (y.2 x.2)
once d abs c Outside Holds x y = absurd (x y.0)
once d abs c Outside Outside x y = refl
once d abs c Outside (Broken Invariant) x y = absurd (x y.0)
once d abs c Outside (Broken Commute) x y = absurd (x y.0)
once d abs c (Broken Invariant) Holds x y = absurd (x.1 y.1)
once d abs c (Broken Invariant) Outside x y = absurd (y x.0)
once d abs c (Broken Invariant) (Broken Invariant) x y = refl
once d abs c (Broken Invariant) (Broken Commute) x y = absurd (x.1 y.1)
once d abs c (Broken Commute) Holds x y = absurd (x.2 y.2)
once d abs c (Broken Commute) Outside x y = absurd (y x.0)
once d abs c (Broken Commute) (Broken Invariant) x y = absurd (y.1 x.1)
once d abs c (Broken Commute) (Broken Commute) x y = refl

pub returns : goal.returns
returns c = once
