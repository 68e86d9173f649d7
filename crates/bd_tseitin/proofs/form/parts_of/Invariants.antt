use Rattle.bd_tseitin.specs.inner.Step.{is_set}
use Rattle.bd_tseitin.proofs.Stage.{IsStage}
use Rattle.bd_tseitin.proofs.form.parts_of.Given as goal

abbrev pub invariant-loop-id : goal.invariant-loop-id
invariant-loop-id l = IsStage l.prop (is_set l.marks) l.id l.parts
