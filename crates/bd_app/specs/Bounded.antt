-- `bounded`: whether a pipeline is right for so many cycles, from each state in which the start is
-- true.
use Rattle.std.specs.Prelude.{◌≡◌, ◌≤◌, ℕ, List, [], ◌∷◌, ◌++◌, codes, min, Option, Some, None}
use Rattle.std.specs.Fmt.{decimal}
use Rattle.clap.specs.Simple.{Shape}
use Rattle.clap.specs.Walk.{Row}
use Rattle.bd_model.specs.Limits.{most_cycles}
use Rattle.bd_model.specs.DesignView.{DesignView}
use Rattle.bd_model.specs.declared.case.Trail.{Trail}
use Rattle.bd_bounded.specs.Answer.{HasWork, Says}
use Rattle.bd_bounded.specs.declared.answer.Bounded.{Bounded}
use Rattle.bd_bounded.specs.declared.answer.Bounded.TheVariants as bounded
use Rattle.bd_app.specs.Files.{DesignNames, with_start}
use Rattle.bd_app.specs.Meaning.{Meaning}
use Rattle.bd_app.specs.Questions.{design_meaning}
use Rattle.bd_app.specs.Texts.{IsTextOfIf, trail_kind}
use Rattle.bd_app.specs.Words.{Name, budget_option, in_range, machines_command, number_of, required, text_of_required}
use Rattle.bd_app.specs.declared.answer.Ended.{Ended}
use Rattle.bd_app.specs.declared.answer.Ended.TheVariants as endings
use Rattle.bd_app.specs.declared.command.bounded.BoundedOptions.{BoundedOptions}

-- the pipeline, the specification and the start, the number of cycles, and the budget
pub record BoundedRun : Type 0 where
  pub pipe : Name
  pub spec : Name
  pub start : Name
  pub cycles : ℕ
  pub budget : ℕ

-- ---- its words

-- bounded PIPE SPEC START C [--budget N]
abbrev pub bounded_command : Shape
bounded_command = machines_command (codes "bounded") (
    required (codes "START")
    ∷ in_range 0 most_cycles (required (codes "C"))
    ∷ budget_option
    ∷ [])

abbrev pub bounded_question : List Row → BoundedRun
bounded_question rows = record {
  pipe = text_of_required (codes "PIPE") rows;
  spec = text_of_required (codes "SPEC") rows;
  start = text_of_required (codes "START") rows;
  cycles = min (number_of (codes "C") rows) most_cycles;
  budget = number_of (codes "budget") rows;
}

-- the question of these options
abbrev pub bounded_of : BoundedOptions → BoundedRun
bounded_of options = record {
  pipe = options.pipe.now;
  spec = options.spec.now;
  start = options.start.now;
  cycles = options.cycles;
  budget = options.budget;
}

-- there are at most 16 cycles
abbrev pub HasFewCycles : BoundedOptions → Type 0
HasFewCycles options = options.cycles ≤ most_cycles

-- ---- its answers

-- an answer for so many cycles, under this budget, in words
abbrev pub bounded_words : ℕ → ℕ → Bounded → List ℕ
bounded_words cycles budget (bounded.Kept work) = codes "correct to " ++ decimal cycles
bounded_words cycles budget (bounded.Broken cycle t work) = codes "wrong commute " ++ decimal cycle
bounded_words cycles budget (bounded.Undecided work) = codes "undecided " ++ decimal budget

-- the trail that it shows
abbrev pub shown_trail : Bounded → Option Trail
shown_trail (bounded.Broken cycle t work) = Some t
shown_trail _ = None

-- the answer is true of the design, has the formula and the log that show it, and is reported: a
-- line, and the trail, where there is one
pub record IsBoundedReport (cycles budget : ℕ) (d : DesignView) (e : Ended) (report : List ℕ) :
    Type 0 where
  pub answer : Bounded
  pub says : Says d cycles answer
  pub work : HasWork d cycles budget answer
  pub ended : e ≡ endings.Bounded answer
  pub trail : List ℕ
  pub shown : IsTextOfIf trail_kind d (shown_trail answer) trail
  pub whole : report ≡ (bounded_words cycles budget answer ++ 10 ∷ []) ++ trail

-- the names of the files of the design
abbrev pub bounded_names : BoundedRun → DesignNames
bounded_names q = with_start q.pipe q.spec q.start

abbrev pub bounded_meaning : BoundedRun → Meaning
bounded_meaning q = design_meaning (bounded_names q) (IsBoundedReport q.cycles q.budget)
