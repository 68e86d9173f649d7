-- What is said of the texts of a design and of a completion function before anything is printed.
use Rattle.std.specs.Prelude.{Bool, ℕ, List, Result, Ok, Err, IfOk, IfErr}
use Rattle.bd_model.specs.Abstraction.{AbstractionView}
use Rattle.bd_completion.specs.Answer.{HasWork, Says}
use Rattle.bd_model.specs.DesignView.{DesignView}
use Rattle.bd_app.specs.Complete.{shown_break}
use Rattle.bd_app.specs.Completions.{AreCompleted}
use Rattle.bd_app.specs.Sources.{Sources}
use Rattle.bd_app.specs.Texts.{IsTextOfIf, case_kind}
use Rattle.bd_app.specs.declared.answer.Answer.{Answer}
use Rattle.bd_app.specs.declared.answer.Ended.{Ended}
use Rattle.bd_app.specs.declared.fault.Fault.{Fault}
use Rattle.bd_app.specs.declared.fault.Fault.TheVariants.{Refused, Memory}
use Rattle.bd_app.specs.declared.command.complete.ShownBreak.{ShownBreak}

-- these texts are this design and this abstraction
abbrev pub AreCompletion : Sources → List ℕ → DesignView → AbstractionView → Type 0
AreCompletion s comp d abs = AreCompleted s comp (Ok (record { design = d; abs = abs }))

-- why they are none
abbrev pub AreNoCompletion : Sources → List ℕ → Fault → Type 0
AreNoCompletion s comp (Refused file offset code) =
    AreCompleted s comp (Err (record { file = file; offset = offset; code = code }))
AreNoCompletion s comp Memory = Unit {0}
AreNoCompletion s comp _ = ⊥

-- this is said of the design and the abstraction of texts, unless they are refused
pub record OnCompletion (Says : DesignView → AbstractionView → Ended → List ℕ → Type 0)
    (s : Sources) (comp : List ℕ) (r : Result Answer Fault) : Type 0 where
  pub said : IfOk r (λ a. (d : DesignView) × (abs : AbstractionView) × AreCompletion s comp d abs
      × Says d abs a.ended a.report.items)
  pub refused : IfErr r (AreNoCompletion s comp)

-- an answer on a design and an abstraction, and the text of the case that is shown with it
pub record IsShownBreak (d : DesignView) (abs : AbstractionView) (agree : Bool) (budget : ℕ)
    (f : ShownBreak) : Type 0 where
  pub says : Says d abs agree f.answer
  pub work : HasWork d abs agree budget f.answer
  pub case : IsTextOfIf case_kind d (shown_break f.answer) f.case.items
