-- How a run ends: the status, and the line of a fault.
use Rattle.std.specs.Prelude.{ℕ, List, [], ◌∷◌, ◌++◌, codes}
use Rattle.std.specs.Fmt.{decimal}
use Rattle.bd_bounded.specs.declared.answer.Bounded.TheVariants as bounded
use Rattle.bd_completion.specs.declared.answer.Complete.TheVariants as complete
use Rattle.bd_model.specs.declared.case.Judged.TheVariants as judged
use Rattle.bd_model.specs.declared.case.TrailJudged.TheVariants as trail
use Rattle.bd_text.specs.CodeText.{code_name, code_text}
use Rattle.bd_text.specs.declared.code.Code.{Code}
use Rattle.bd_typer.specs.declared.fault.Text.{Text}
use Rattle.bd_typer.specs.declared.fault.Text.TheVariants as text
use Rattle.bd_app.specs.declared.answer.Which.{Which}
use Rattle.bd_app.specs.declared.answer.Which.TheVariants as which
use Rattle.bd_app.specs.declared.answer.Ended.{Ended}
use Rattle.bd_app.specs.declared.answer.Ended.TheVariants.{Correct, Wrong, Void, Undecided, Replayed, Ran, Proved, Bounded, Retraced, Completed, Usage, Refused, BadText, Device, Memory}
use Rattle.bd_app.specs.ProofFaults.{proof_line}

abbrev pub status_of : Ended → ℕ
status_of (Correct c work) = 0
status_of (Wrong k c work) = 1
status_of (Void work) = 7
status_of (Undecided asked work) = 4
status_of (Replayed judged.Holds) = 0
status_of (Replayed judged.Outside) = 8
status_of (Replayed (judged.Broken k)) = 1
status_of Ran = 0
status_of (Proved work) = 0
status_of (Bounded (bounded.Kept work)) = 0
status_of (Bounded (bounded.Broken cycle t work)) = 1
status_of (Bounded (bounded.Undecided work)) = 4
status_of (Retraced trail.Holds) = 0
status_of (Retraced trail.Outside) = 8
status_of (Retraced (trail.Broken cycle)) = 1
status_of (Completed (complete.Right work)) = 0
status_of (Completed (complete.Wrong k c work)) = 1
status_of (Completed (complete.Agree work)) = 0
status_of (Completed (complete.Differ c work)) = 1
status_of (Completed (complete.Undecided work)) = 4
status_of Usage = 2
status_of (Refused t offset code) = 3
status_of (BadText line column why cnf) = 3
status_of (Device w) = 5
status_of Memory = 6

-- an answer that is no fault
abbrev pub HasReport : Ended → Type 0
HasReport Usage = ⊥
HasReport (Refused t offset code) = ⊥
HasReport (BadText line column why cnf) = ⊥
HasReport (Device w) = ⊥
HasReport Memory = ⊥
HasReport _ = Unit {0}

-- an answer before which nothing is saved
abbrev pub SavesNothing : Ended → Type 0
SavesNothing (Replayed j) = Unit {0}
SavesNothing Ran = Unit {0}
SavesNothing (Proved work) = Unit {0}
SavesNothing (Bounded answer) = Unit {0}
SavesNothing (Retraced j) = Unit {0}
SavesNothing (Completed answer) = Unit {0}
SavesNothing Usage = Unit {0}
SavesNothing (Refused file offset code) = Unit {0}
SavesNothing (BadText line column why cnf) = Unit {0}
SavesNothing (Device which.Load) = Unit {0}
SavesNothing _ = ⊥

-- ---- the line of a fault

abbrev pub usage : List ℕ
usage =
    codes "usage: burch_dill check PIPE SPEC [INV] [--budget N] [--cnf FILE] [--lrat FILE] "
    ++ codes "[--diverse] | replay PIPE SPEC CASE [INV] | run PIPE SPEC CASE CYCLES "
    ++ codes "| gen DEPTH DROP | recheck PIPE SPEC PROOF [INV] "
    ++ codes "| bounded PIPE SPEC START C [--budget N] | retrace PIPE SPEC TRAIL START "
    ++ codes "| complete PIPE SPEC COMP [INV] [--agree] [--budget N]"

abbrev pub file_word : Text → List ℕ
file_word text.Pipe = codes "pipe"
file_word text.Spec = codes "spec"
file_word text.Comp = codes "comp"
file_word text.Inv = codes "inv"
file_word text.Start = codes "start"
file_word text.Case = codes "case"
file_word text.Trail = codes "trail"
file_word text.Proof = codes "proof"

abbrev pub device_text : Which → List ℕ
device_text which.Load = codes "cannot read"
device_text which.Save = codes "cannot save"
device_text which.Out = codes "cannot write"

-- FILE:OFFSET: CODE TEXT
abbrev pub refusal_of : (file offset code text : List ℕ) → List ℕ
refusal_of file offset code text =
    file ++ codes ":" ++ offset ++ codes ": " ++ code ++ codes " " ++ text ++ 10 ∷ []

abbrev pub refusal_line : Text → ℕ → Code → List ℕ
refusal_line file offset code =
    refusal_of (file_word file) (decimal offset) (code_name code) (code_text code)

-- the line for the error output; what has a report has none
abbrev pub fault_line_of : Ended → List ℕ
fault_line_of Usage = usage ++ 10 ∷ []
fault_line_of (Refused t offset code) = refusal_line t offset code
fault_line_of (BadText line column why cnf) = proof_line line column why
fault_line_of (Device w) = device_text w ++ 10 ∷ []
fault_line_of Memory = codes "out of memory" ++ 10 ∷ []
fault_line_of _ = []
