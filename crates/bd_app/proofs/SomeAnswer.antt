-- A run whose words are taken and whose files have no fault ends with an answer, or as memory runs out.
use Rattle.std.proofs.Common.{◌≡◌, ◌≤◌, ◌∙◌, ℕ, List, [], ◌∷◌, ◌++◌, length, sym, subst, refl, inl, inr, arith}
use Rattle.std.specs.Prelude.{◌⊎◌, Option, Some, IfSome}
use Rattle.bd_files.specs.Devices.{Held, Rose}
use Rattle.bd_app.specs.Answer.{HasReport}
use Rattle.bd_app.specs.Commands.{Question, check, replay, run, gen, recheck, bounded, retrace, complete, meaning_of, taken}
use Rattle.bd_app.specs.Files.{AreShort, File, IsLong, IsShort, most_bytes}
use Rattle.bd_app.specs.Laws.{Answers, AreFaultless}
use Rattle.bd_app.specs.Meaning.{FilesSeen, IsProofRefused, IsRefused, Meaning}
use Rattle.bd_app.specs.Program.{IsRun, SinkSeen}
use Rattle.bd_app.specs.declared.answer.Which.TheVariants as which
use Rattle.bd_app.specs.declared.answer.Ended.{Ended}
use Rattle.bd_app.specs.declared.answer.Ended.TheVariants.{Correct, Wrong, Void, Undecided, Replayed, Ran, Proved, Bounded, Retraced, Completed, Usage, Refused, BadText, Device, Memory}

-- an answer that is no fault is one of the question's
answers : (q : Question) (held : Option Held) (e : Ended) (report : List ℕ) → (meaning_of q).IsAnswer held e report → Answers q e
answers (check q) held e report is = (is.says.verdict, is.says.ended, is.says.is_verdict.may_give)
answers (replay q) held e report is = (is.says.judgement, is.says.ended)
answers (run q) held e report is = is.says.ended
answers (gen q) held e report is = (is.says.verdict, is.says.ended, is.says.is_verdict.may_give)
answers (recheck q) held e report is = (is.work, is.ended)
answers (bounded q) held e report is = (is.says.answer, is.says.ended)
answers (retrace q) held e report is = (is.says.judgement, is.says.ended)
answers (complete q) held e report is = (is.says.answer, is.says.ended)

-- a file that is short isn't long
not_long : (held : Held) (file : File) → IsShort held file → ¬ IsLong held file
not_long held file short long =
    let same : Some short.0 ≡ Some long.0 = sym short.1.0 ∙ long.1 in
    let one : short.0 ≡ long.0 = cc same in
    let few : length long.0 ≤ most_bytes file.0 = subst (λ bytes. length bytes ≤ most_bytes file.0) one short.1.1 in
    omega (arith, few, long.2)

-- so none of short files is the first that is long
within_short : (held : Held) (before : List File) (file : File) (after : List File) → AreShort held (before ++ file ∷ after) → IsShort held file
within_short held [] file after short = short.0
within_short held (f ∷ before) file after short = within_short held before file after short.1

module _ (words : List (List ℕ)) (files files' : FilesSeen) (out out' err err' : SinkSeen) (q : Question) (asks : taken words ≡ Some q)
    (held : Held) (tells : files.held ≡ Some held) (fine : AreFaultless (meaning_of q) held)
    (loaded : ¬ Rose files.faults files'.faults) (put : ¬ Rose out.faults out'.faults) where
  reported : (e : Ended) → HasReport e → IsRun words e files files' out out' err err' → Answers q e ⊎ (e ≡ Memory)
  reported e has is = let printed = (is.answered q asks).printed has in inl (answers q files.held e printed.0 printed.3)

  pub some_answer : (e : Ended) → IsRun words e files files' out out' err err' → Answers q e ⊎ (e ≡ Memory)
  some_answer (Correct c work) is = reported (Correct c work) tt is
  some_answer (Wrong k c work) is = reported (Wrong k c work) tt is
  some_answer (Void work) is = reported (Void work) tt is
  some_answer (Undecided asked work) is = reported (Undecided asked work) tt is
  some_answer (Replayed judgement) is = reported (Replayed judgement) tt is
  some_answer Ran is = reported Ran tt is
  some_answer (Proved work) is = reported (Proved work) tt is
  some_answer (Bounded answer) is = reported (Bounded answer) tt is
  some_answer (Retraced judgement) is = reported (Retraced judgement) tt is
  some_answer (Completed answer) is = reported (Completed answer) tt is
  some_answer Usage is = let none = is.usage_only refl in absurd (cc (none, asks))
  some_answer (Refused file offset code) is =
      let refused = subst (λ h. IfSome h (λ h. IsRefused (meaning_of q) h file offset code)) tells ((is.answered q asks).refused file offset code refl) in
      elim refused [
        | inl long ↦ absurd (not_long held _ (within_short held long.first.before _ long.first.after (subst (AreShort held) long.first.order fine.short)) long.first.long)
        | inr fault ↦ absurd (fine.texts file offset code fault.1)
      ]
  some_answer (BadText line column why cnf) is =
      let refused = subst (λ h. IfSome h (λ h. IsProofRefused (meaning_of q) h line column why cnf)) tells ((is.answered q asks).bad_text line column why cnf refl) in
      absurd (fine.proof line column why cnf refused.1)
  some_answer (Device which.Load) is = absurd (loaded ((is.answered q asks).effects.load_rose refl))
  some_answer (Device which.Save) is = absurd (loaded ((is.answered q asks).effects.save_rose refl))
  some_answer (Device which.Out) is = absurd (put (is.out_rose refl))
  some_answer Memory is = inr refl
