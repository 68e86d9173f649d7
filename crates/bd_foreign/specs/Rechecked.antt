-- What is said of a design and a textual proof over its kept formula (Burch and Dill 1994; textual LRAT).
use Rattle.std.specs.Prelude.{◌≡◌, ℕ, List, Ok, Err}
use Rattle.bd_cnf.specs.Problem.{Problem}
use Rattle.bd_model.specs.DesignView.{DesignView}
use Rattle.bd_proof_text.specs.declared.fault.Fault.{Fault}
use Rattle.bd_proof_text.specs.ProofText.{fault, proof_text}
use Rattle.bd_proof_text.specs.Tokens.{place}
use Rattle.bd_verify.specs.declared.verdict.Mode.{Mode}
use Rattle.bd_verify.specs.declared.verdict.Mode.TheVariants.{Plain}
use Rattle.bd_verify.specs.declared.verdict.Question.TheVariants.{Breaks}
use Rattle.bd_verify.specs.declared.verdict.Work.{Work}
use Rattle.bd_verify.specs.Kept.{IsKept}
use Rattle.bd_foreign.specs.declared.fault.ProofFault.{ProofFault}
use Rattle.bd_foreign.specs.declared.fault.ProofFault.TheVariants as proof

-- the work is the formula that is kept, in a mode, of the question whether a case breaks a condition, and just the lines
-- that the text has over it, up to the one that ends the proof
pub record IsReadIn (m : Mode) (d : DesignView) (bytes : List ℕ) (work : Work) : Type 0 where
  pub kept : IsKept d Breaks m work.cnf
  pub lines : proof_text work.cnf bytes ≡ Ok work.log

-- the text has this first fault over the kept formula
pub record HasFaultIn (m : Mode) (d : DesignView) (bytes : List ℕ) (e : Fault) (cnf : Problem) : Type 0 where
  pub kept : IsKept d Breaks m cnf
  pub first : proof_text cnf bytes ≡ Err e

-- the fault that is answered, unless memory ran out
abbrev pub IsFaultIn : Mode → DesignView → List ℕ → ProofFault → Type 0
IsFaultIn m d bytes (proof.Bad line column cause cnf) = HasFaultIn m d bytes (fault (place line column) cause) cnf
IsFaultIn m d bytes proof.Memory = Unit {0}

-- the same of plain mode
abbrev pub IsReadFrom : DesignView → List ℕ → Work → Type 0
IsReadFrom = IsReadIn Plain

abbrev pub HasFault : DesignView → List ℕ → Fault → Problem → Type 0
HasFault = HasFaultIn Plain

abbrev pub IsFaultOf : DesignView → List ℕ → ProofFault → Type 0
IsFaultOf = IsFaultIn Plain
