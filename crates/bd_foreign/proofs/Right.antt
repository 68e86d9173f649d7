-- What a text over the kept formula says of the design: a refutation of the formula shows it right.
use Rattle.std.proofs.Common.{◌≡◌, ℕ, List, Result, Ok, Err, IfOk, IfErr, sym, subst}
use Rattle.bd_cnf.specs.Problem.{Problem}
use Rattle.bd_lrat.specs.declared.line.Line.{Line}
use Rattle.bd_lrat.specs.Log.{IsRefutation}
use Rattle.bd_lrat.proofs.Soundness.{refutation_sound}
use Rattle.bd_model.specs.DesignView.{DesignView}
use Rattle.bd_model.specs.Lawful.{IsLawful}
use Rattle.bd_model.specs.Right.{IsRight}
use Rattle.bd_proof_text.specs.ProofText.{fault, proof_text}
use Rattle.bd_proof_text.specs.Tokens.{place}
use Rattle.bd_verify.specs.declared.verdict.Mode.{Mode}
use Rattle.bd_verify.specs.declared.verdict.Question.TheVariants.{Breaks}
use Rattle.bd_verify.specs.declared.verdict.Work.{Work}
use Rattle.bd_verify.specs.Kept.{IsKept}
use Rattle.bd_verify.specs.Verdict.{IsAsked, Keeps}
use Rattle.bd_verify.proofs.Judgements.{right-unless}
use Rattle.bd_foreign.specs.declared.fault.ProofFault.{ProofFault}
use Rattle.bd_foreign.specs.declared.fault.ProofFault.TheVariants as proof
use Rattle.bd_foreign.specs.Rechecked.{IsFaultIn, IsReadIn}
use Rattle.bd_foreign.specs.inner.Over.{IsFaultOver, IsReadOver}

module _ (d : DesignView) (p : Problem) (bytes : List ℕ) where
  -- a case that breaks a condition would satisfy the formula
  pub refuted-right : (log : List Line) → IsLawful d → Keeps d (IsAsked Breaks d) p → IsRefutation p log → IsRight d
  refuted-right log lawful keeps refutes =
      right-unless d lawful (λ c fits asked. let found = keeps.decides.1 (c, fits, asked) in refutation_sound p log refutes found.0 found.1)

  pub right-over : (r : Result Work ProofFault) → IsLawful d → Keeps d (IsAsked Breaks d) p → IfOk r (IsReadOver p bytes) → IfOk r (λ _. IsRight d)
  right-over (Ok work) lawful keeps read = refuted-right work.log lawful keeps read.refutes
  right-over (Err e) lawful keeps read = tt

  pub read-over : (m : Mode) (r : Result Work ProofFault) → IsKept d Breaks m p → IfOk r (IsReadOver p bytes) → IfOk r (IsReadIn m d bytes)
  read-over m (Ok work) kept read = record {
    kept = subst (IsKept d Breaks m) (sym read.same) kept;
    lines = subst (λ q. proof_text q bytes ≡ Ok work.log) (sym read.same) read.lines;
  }
  read-over m (Err e) kept read = tt

  pub refutes-over : (r : Result Work ProofFault) → IfOk r (IsReadOver p bytes) → IfOk r (λ work. IsRefutation work.cnf work.log)
  refutes-over (Ok work) read = subst (λ q. IsRefutation q work.log) (sym read.same) read.refutes
  refutes-over (Err e) read = tt

  pub fault-over : (m : Mode) (r : Result Work ProofFault) → IsKept d Breaks m p → IfErr r (IsFaultOver p bytes) → IfErr r (IsFaultIn m d bytes)
  fault-over m (Ok work) kept h = tt
  fault-over m (Err (proof.Bad line column cause cnf)) kept h = record {
    kept = subst (IsKept d Breaks m) (sym h.0) kept;
    first = subst (λ q. proof_text q bytes ≡ Err (fault (place line column) cause)) (sym h.0) h.1;
  }
  fault-over m (Err proof.Memory) kept h = tt
