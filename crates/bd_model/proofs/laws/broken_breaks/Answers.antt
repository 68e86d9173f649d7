use Rattle.bd_model.specs.Laws.{BrokenBreaks}
use Rattle.bd_model.specs.declared.case.Condition.TheVariants.{Invariant, Commute}
use Rattle.bd_model.proofs.laws.broken_breaks.Goals as goal

breaks : BrokenBreaks
breaks d abs c Invariant fits shown = record { fits = fits; inside = shown.0; broken = shown.1 }
breaks d abs c Commute fits shown = record { fits = fits; inside = shown.0; broken = shown.2 }

pub returns : goal.returns
returns c = breaks
