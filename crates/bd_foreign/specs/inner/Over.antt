-- What a text comes to over a formula, whatever the design.
use Rattle.std.specs.Prelude.{◌≡◌, ℕ, List, Ok, Err}
use Rattle.bd_cnf.specs.Problem.{Problem}
use Rattle.bd_lrat.specs.Log.{IsRefutation}
use Rattle.bd_proof_text.specs.ProofText.{fault, proof_text}
use Rattle.bd_proof_text.specs.Tokens.{place}
use Rattle.bd_verify.specs.declared.verdict.Work.{Work}
use Rattle.bd_foreign.specs.declared.fault.ProofFault.{ProofFault}
use Rattle.bd_foreign.specs.declared.fault.ProofFault.TheVariants as proof

-- the work is this formula and the lines of the text, which refute it
pub record IsReadOver (p : Problem) (bytes : List ℕ) (work : Work) : Type 0 where
  pub same : work.cnf ≡ p
  pub lines : proof_text p bytes ≡ Ok work.log
  pub refutes : IsRefutation p work.log

-- the fault of the text over this formula, unless memory ran out
abbrev pub IsFaultOver : Problem → List ℕ → ProofFault → Type 0
IsFaultOver p bytes (proof.Bad line column cause cnf) = (cnf ≡ p) × (proof_text p bytes ≡ Err (fault (place line column) cause))
IsFaultOver p bytes proof.Memory = Unit {0}
