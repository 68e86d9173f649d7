-- `complete`: whether a pipeline is right by a completion function, or whether that agrees with
-- flushing.
use Rattle.std.specs.Prelude.{◌≡◌, Bool, ℕ, List, [], ◌∷◌, ◌++◌, codes, Option, Some, None, IfSome}
use Rattle.std.specs.Fmt.{decimal}
use Rattle.clap.specs.Simple.{Shape}
use Rattle.clap.specs.Walk.{Row}
use Rattle.bd_model.specs.Abstraction.{AbstractionView}
use Rattle.bd_completion.specs.Answer.{HasWork, Says}
use Rattle.bd_completion.specs.declared.answer.Complete.{Complete}
use Rattle.bd_completion.specs.declared.answer.Complete.TheVariants as complete
use Rattle.bd_files.specs.Devices.{Held}
use Rattle.bd_model.specs.DesignView.{DesignView}
use Rattle.bd_model.specs.declared.case.Case.{Case}
use Rattle.bd_model.specs.declared.case.Condition.TheVariants as condition
use Rattle.bd_typer.specs.declared.fault.Text.TheVariants.{Comp}
use Rattle.bd_app.specs.Completions.{CompletesTo, IsCompletionFault}
use Rattle.bd_app.specs.Files.{TextNames, text_files, text_names, text_question}
use Rattle.bd_app.specs.Meaning.{Meaning, no_proof}
use Rattle.bd_app.specs.Texts.{IsTextOfIf, case_kind}
use Rattle.bd_app.specs.Words.{budget_option, flag, flag_at, number_of, text_command}
use Rattle.bd_app.specs.declared.answer.Ended.{Ended}
use Rattle.bd_app.specs.declared.answer.Ended.TheVariants.{Completed}
use Rattle.bd_app.specs.declared.command.complete.CompleteOptions.{CompleteOptions}

-- the pipeline, the specification, the completion function and maybe the invariant; whether agreement
-- with flushing is asked about; and the budget
pub record Completion : Type 0 where
  pub names : TextNames
  pub agree : Bool
  pub budget : ℕ

-- ---- its words

-- complete PIPE SPEC COMP [INV] [--agree] [--budget N]
abbrev pub complete_command : Shape
complete_command =
    text_command (codes "complete") (codes "COMP") (flag (codes "agree") ∷ budget_option ∷ [])

abbrev pub complete_question : List Row → Completion
complete_question rows = record {
  names = text_question (codes "COMP") rows;
  agree = flag_at (codes "agree") rows;
  budget = number_of (codes "budget") rows;
}

-- the question of these options
abbrev pub complete_of : CompleteOptions → Completion
complete_of options = record {
  names = text_names options.files;
  agree = options.agree;
  budget = options.budget;
}

-- ---- its answers

-- an answer under this budget, in words
abbrev pub complete_words : ℕ → Complete → List ℕ
complete_words budget (complete.Right work) = codes "correct"
complete_words budget (complete.Wrong condition.Invariant c work) = codes "wrong invariant"
complete_words budget (complete.Wrong condition.Commute c work) = codes "wrong commute"
complete_words budget (complete.Agree work) = codes "agree"
complete_words budget (complete.Differ c work) = codes "differ"
complete_words budget (complete.Undecided work) = codes "undecided " ++ decimal budget

-- the case that it shows
abbrev pub shown_break : Complete → Option Case
shown_break (complete.Wrong k c work) = Some c
shown_break (complete.Differ c work) = Some c
shown_break _ = None

-- the answer is true of the design and of the abstraction, has the formula and the log that show it,
-- and is reported: a line, and the case, where there is one
pub record IsCompleteReport (agree : Bool) (budget : ℕ) (d : DesignView) (abs : AbstractionView)
    (e : Ended) (report : List ℕ) : Type 0 where
  pub answer : Complete
  pub says : Says d abs agree answer
  pub work : HasWork d abs agree budget answer
  pub ended : e ≡ Completed answer
  pub case : List ℕ
  pub shown : IsTextOfIf case_kind d (shown_break answer) case
  pub whole : report ≡ (complete_words budget answer ++ 10 ∷ []) ++ case

-- the same of the design and the completion function that are asked about
pub record IsCompleteAnswer (q : Completion) (held : Option Held) (e : Ended) (report : List ℕ) :
    Type 0 where
  pub design : DesignView
  pub abs : AbstractionView
  pub asks : IfSome held (λ h. CompletesTo q.names h design abs)
  pub says : IsCompleteReport q.agree q.budget design abs e report

abbrev pub complete_meaning : Completion → Meaning
complete_meaning q = record {
  files = text_files Comp q.names;
  cnf = None;
  lrat = None;
  Asks = λ held d. (abs : AbstractionView) × CompletesTo q.names held d abs;
  verdict = None;
  IsTextFault = λ held file offset code. IsCompletionFault q.names held file offset code;
  IsProofFault = no_proof;
  IsAnswer = IsCompleteAnswer q;
}
