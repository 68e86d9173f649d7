-- What a judgement says, in a sentence, and what a completion function gives beside flushing.
use Rattle.std.specs.Prelude.{ℕ, Bool, true, false, List, ◌++◌, codes}
use Rattle.std.specs.Fmt.{decimal}
use Rattle.bd_model.specs.DesignView.{DesignView}
use Rattle.bd_model.specs.declared.case.Condition.TheVariants.{Invariant, Commute}
use Rattle.bd_model.specs.declared.case.Judged.{Judged}
use Rattle.bd_model.specs.declared.case.Judged.TheVariants.{Holds, Outside, Broken}
use Rattle.bd_picture.specs.declared.picture.Outcome.{Outcome}
use Rattle.bd_picture.specs.declared.picture.Outcome.TheVariants.{Flushed, Completed, Compared}

abbrev pub sentence : DesignView → Judged → List ℕ
sentence d Holds = codes "holds: nothing is broken"
sentence d Outside = codes "outside: the state doesn't meet the invariant"
sentence d (Broken Invariant) = codes "invariant broken: it doesn't hold after the cycle"
sentence d (Broken Commute) =
    codes "commute broken: no step count j in 0.." ++ decimal d.steps ++ codes " works"

-- by a completion function, in place of flushing
abbrev pub completed_sentence : DesignView → Judged → List ℕ
completed_sentence d (Broken Commute) =
    codes "commute broken by the completion function: no step count j in 0.."
    ++ decimal d.steps ++ codes " works"
completed_sentence d Holds = codes "holds by the completion function: nothing is broken"
completed_sentence d Outside = sentence d Outside
completed_sentence d (Broken Invariant) = sentence d (Broken Invariant)

-- whether it gives in a state what flushing does
abbrev pub compared_sentence : Bool → List ℕ
compared_sentence true = codes "agree: the completion function gives what flushing does"
compared_sentence false = codes "differ: the completion function gives something else than flushing"

abbrev pub outcome_sentence : DesignView → Outcome → List ℕ
outcome_sentence d (Flushed j) = sentence d j
outcome_sentence d (Completed j) = completed_sentence d j
outcome_sentence d (Compared same) = compared_sentence same
