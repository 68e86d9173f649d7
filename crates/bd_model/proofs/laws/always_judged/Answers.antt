use Rattle.std.proofs.Common.{inl, inr}
use Rattle.bd_model.specs.Cycle.{invariant}
use Rattle.bd_model.specs.DesignView.{DesignView}
use Rattle.bd_model.specs.Laws.{AlwaysJudged}
use Rattle.bd_model.specs.Conditions.{Abstraction, MeetsInvariant, JudgedBy}
use Rattle.bd_model.specs.declared.case.Case.{Case}
use Rattle.bd_model.specs.declared.case.Condition.TheVariants.{Invariant, Commute}
use Rattle.bd_model.specs.declared.case.Judged.{Judged}
use Rattle.bd_model.specs.declared.case.Judged.TheVariants.{Holds, Outside, Broken}
use Rattle.bd_model.proofs.Settled.{IsTrue-settled, Commutes-settled}
use Rattle.bd_model.proofs.laws.always_judged.Goals as goal

inside_judged : (d : DesignView) (abs : Abstraction) (c : Case) → MeetsInvariant d c.interp c.state → (j : Judged) × JudgedBy d abs c j
inside_judged d abs c inside = elim (IsTrue-settled _) [
  | inl kept ↦ elim (Commutes-settled d abs c.interp c.state c.inputs) [
    | inl commutes ↦ (Holds, (inside, kept, commutes))
    | inr breaks ↦ (Broken Commute, (inside, kept, breaks))
  ]
  | inr lost ↦ (Broken Invariant, (inside, lost))
]

always : AlwaysJudged
always d abs c = elim (IsTrue-settled (invariant d c.interp c.state)) [
  | inl inside ↦ inside_judged d abs c inside
  | inr outside ↦ (Outside, outside)
]

pub returns : goal.returns
returns c = always
