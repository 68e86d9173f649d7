use Rattle.std.proofs.Common.{sym, ◌∙◌}
use Rattle.std.proofs.lemmas.Bool.{eqb-true, both_ways}
use Rattle.bd_model.proofs.Memories.{alike, same_default}
use Rattle.bd_model.proofs.table.Memory.same.Goals as goal
use Rattle.bd_model.proofs.table.Memory.same.Goals.{then-self-other, else-self-other}

pub returns-then-agrees : goal.returns-then-agrees
returns-then-agrees c =
    elim c.if-self-other.branch [
      | then-self-other w ↦ (
        λ t. alike _ _ _ _ _ _ c.as_slice-mine.ensures c.as_slice-others.ensures w.if-self-other.true
            (w.agrees.ensures.0 (sym w.value-is ∙ c.if-agrees.true)) (c.agrees-then-agrees.ensures.0 t) c.common_end-common.ensures.same,
        λ h. c.agrees-then-agrees.ensures.1 (λ k d lt. h _),
      )
      | else-self-other w ↦ absurd (w.if-self-other.false (eqb-true _ _ (sym w.value-is ∙ c.if-agrees.true)))
    ]

pub returns-else-agrees : goal.returns-else-agrees
returns-else-agrees c = (
  λ t. absurd (both_ways _ c.if-agrees.false t),
  λ h. elim c.if-self-other.branch [
    | then-self-other w ↦ w.value-is ∙ w.agrees.ensures.1 (λ k d lt. h _)
    | else-self-other w ↦ absurd (w.if-self-other.false (same_default _ _ h))
  ],
)
