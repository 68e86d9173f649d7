-- How many questions a verdict is of.
use Rattle.std.proofs.Common.{◌≡◌, ℕ, Bool, Option, sym, subst}
use Rattle.std.specs.Prelude.{Result, Ok, Err, IfOk, OnOk}
use Rattle.std.specs.declared.alloc.AllocError.{AllocError}
use Rattle.bd_model.specs.DesignView.{DesignView}
use Rattle.bd_model.specs.declared.case.Case.{Case}
use Rattle.bd_cdcl.specs.Asks.{Asks}
use Rattle.bd_verify.specs.declared.verdict.Mode.{Mode}
use Rattle.bd_verify.specs.declared.verdict.Question.{Question}
use Rattle.bd_verify.specs.declared.verdict.Question.TheVariants as question
use Rattle.bd_verify.specs.declared.verdict.Verdict.{Verdict}
use Rattle.bd_verify.specs.declared.verdict.Verdict.TheVariants.{Correct, Wrong, Void, Undecided}
use Rattle.bd_verify.specs.Asked.{most_questions, questions}
use Rattle.bd_verify.specs.inner.Answered.{IsFound}

abbrev is_breaks : Question → Type 0
is_breaks question.Breaks = Unit {0}
is_breaks question.Meets = ⊥

of_verdict : (d : DesignView) (m : Mode) (budget : ℕ) (given : Bool) (met : Option Case) (before after : Option ℕ) (v : Verdict) → IsFound d m budget met v → Asks before after (most_questions given) → Asks before after (questions given v)
of_verdict d m budget given met before after (Correct c work) found asks = asks
of_verdict d m budget given met before after (Wrong k c work) found asks = asks
of_verdict d m budget given met before after (Void work) found asks = absurd found
of_verdict d m budget given met before after (Undecided question.Breaks work) found asks = asks
of_verdict d m budget given met before after (Undecided question.Meets work) found asks = absurd (subst is_breaks (sym found.0) tt)

-- a verdict on breaking is of as many as there may be
pub questions_counted : (d : DesignView) (m : Mode) (budget : ℕ) (given : Bool) (met : Option Case) (before after : Option ℕ) (r : Result Verdict AllocError) → IfOk r (IsFound d m budget met) → OnOk r (Asks before after (most_questions given)) → IfOk r (λ v. Asks before after (questions given v))
questions_counted d m budget given met before after (Ok v) found asks = of_verdict d m budget given met before after v found asks
questions_counted d m budget given met before after (Err e) found asks = tt
