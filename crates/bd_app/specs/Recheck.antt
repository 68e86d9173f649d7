-- `recheck`: whether a text proves that a pipeline is right.
use Rattle.std.specs.Prelude.{◌≡◌, ℕ, List, [], ◌∷◌, ◌++◌, codes, Option, None, IfSome}
use Rattle.clap.specs.Simple.{Shape}
use Rattle.clap.specs.Walk.{Row}
use Rattle.bd_files.specs.Devices.{Held}
use Rattle.bd_lrat.specs.Log.{IsRefutation}
use Rattle.bd_model.specs.DesignView.{DesignView}
use Rattle.bd_model.specs.Right.{IsRight}
use Rattle.bd_typer.specs.declared.fault.Text.TheVariants.{Proof}
use Rattle.bd_verify.specs.declared.verdict.Work.{Work}
use Rattle.bd_proof_text.specs.ProofText.{fault}
use Rattle.bd_foreign.specs.Rechecked.{HasFault, IsReadFrom}
use Rattle.bd_proof_text.specs.Tokens.{place}
use Rattle.bd_app.specs.Files.{HoldsShort, TextNames, text_files, text_names, text_question}
use Rattle.bd_app.specs.Meaning.{Meaning}
use Rattle.bd_app.specs.Sources.{IsDesign, IsDesignFault, TextSources}
use Rattle.bd_app.specs.Words.{text_command}
use Rattle.bd_app.specs.declared.answer.Ended.{Ended}
use Rattle.bd_app.specs.declared.answer.Ended.TheVariants.{Proved}
use Rattle.bd_app.specs.declared.load.TextFiles.{TextFiles}

-- the pipeline, the specification, the proof, and maybe the invariant
abbrev pub Recheck : Type 0
Recheck = TextNames

-- ---- its words

-- recheck PIPE SPEC PROOF [INV]
abbrev pub recheck_command : Shape
recheck_command = text_command (codes "recheck") (codes "PROOF") []

abbrev pub recheck_question : List Row → Recheck
recheck_question = text_question (codes "PROOF")

-- the question of these options
abbrev pub recheck_of : TextFiles → Recheck
recheck_of = text_names

-- ---- its answers

-- this is said of the design and of the bytes of the proof, which the files are
pub record OnProof (Says : DesignView → List ℕ → Type 0) (q : Recheck) (held : Held) : Type 0 where
  pub design : DesignView
  pub denoted : IsDesign (TextSources q held) design
  pub bytes : List ℕ
  pub given : HoldsShort held (Proof, q.text) bytes
  pub says : Says design bytes

-- the text proves that the design is right: its lines, up to the one that adds the empty clause, are
-- accepted over the formula that is kept of the question whether a case breaks a condition
pub record Proves (work : Work) (d : DesignView) (bytes : List ℕ) : Type 0 where
  pub read : IsReadFrom d bytes work
  pub refutes : IsRefutation work.cnf work.log
  pub right : IsRight d

-- the answer to a text that proves it, with its report
pub record IsProofAnswer (q : Recheck) (held : Option Held) (e : Ended) (report : List ℕ) :
    Type 0 where
  pub work : Work
  pub ended : e ≡ Proved work
  pub proves : IfSome held (OnProof (Proves work) q)
  pub words : report ≡ codes "correct by proof" ++ 10 ∷ []

abbrev pub recheck_meaning : Recheck → Meaning
recheck_meaning q = record {
  files = text_files Proof q;
  cnf = None;
  lrat = None;
  Asks = λ held d. IsDesign (TextSources q held) d;
  verdict = None;
  IsTextFault = λ held file offset code. IsDesignFault (TextSources q held) file offset code;
  IsProofFault = λ held line column cause cnf.
      OnProof (λ d bytes. HasFault d bytes (fault (place line column) cause) cnf) q held;
  IsAnswer = IsProofAnswer q;
}
