-- Verdicts on one design have one word.
use Rattle.std.proofs.Common.{refl}
use Rattle.bd_model.specs.Cycle.{flushed}
use Rattle.bd_verify.specs.declared.verdict.Verdict.TheVariants.{Correct, Wrong, Void, Undecided}
use Rattle.bd_verify.specs.Agreement.{VerdictsAgree}
use Rattle.bd_verify.proofs.Judgements.{broken-inside, right-unbroken}

pub verdicts-agree : VerdictsAgree
verdicts-agree d given (Correct m u) (Correct n v) lawful a b ne_a ne_b = refl
verdicts-agree d given (Correct m u) (Wrong k c v) lawful a b ne_a ne_b = absurd (right-unbroken d (flushed d) lawful a.0 c k b.0 b.1)
verdicts-agree d given (Correct m u) (Void v) lawful a b ne_a ne_b = absurd (b.1 (a.1 b.0))
verdicts-agree d given (Correct m u) (Undecided q v) lawful a b ne_a ne_b = absurd (ne_b refl)
verdicts-agree d given (Wrong k c u) (Correct n v) lawful a b ne_a ne_b = absurd (right-unbroken d (flushed d) lawful b.0 c k a.0 a.1)
verdicts-agree d given (Wrong k c u) (Wrong j e v) lawful a b ne_a ne_b = refl
verdicts-agree d given (Wrong k c u) (Void v) lawful a b ne_a ne_b = absurd (b.1 (broken-inside d (flushed d) c k a.0 a.1))
verdicts-agree d given (Wrong k c u) (Undecided q v) lawful a b ne_a ne_b = absurd (ne_b refl)
verdicts-agree d given (Void u) (Correct n v) lawful a b ne_a ne_b = absurd (a.1 (b.1 a.0))
verdicts-agree d given (Void u) (Wrong k c v) lawful a b ne_a ne_b = absurd (a.1 (broken-inside d (flushed d) c k b.0 b.1))
verdicts-agree d given (Void u) (Void v) lawful a b ne_a ne_b = refl
verdicts-agree d given (Void u) (Undecided q v) lawful a b ne_a ne_b = absurd (ne_b refl)
verdicts-agree d given (Undecided p u) b lawful a s ne_a ne_b = absurd (ne_a refl)
