-- `run`: the states of a case's run.
use Rattle.std.specs.Prelude.{◌≡◌, ℕ, ◌+◌, List, [], ◌∷◌, ◌++◌, codes, None}
use Rattle.std.specs.Fmt.{decimal}
use Rattle.clap.specs.Simple.{Shape}
use Rattle.clap.specs.Walk.{Row}
use Rattle.bd_model.specs.DesignView.{DesignView}
use Rattle.bd_model.specs.declared.table.Value.{Value}
use Rattle.bd_model.specs.declared.case.Case.{Case}
use Rattle.bd_sim.specs.Trace.{trace_of}
use Rattle.bd_case.specs.Text.{state_text}
use Rattle.bd_app.specs.Files.{TextNames, with_invariant}
use Rattle.bd_app.specs.Meaning.{Meaning}
use Rattle.bd_app.specs.Questions.{text_meaning}
use Rattle.bd_app.specs.Texts.{case_kind}
use Rattle.bd_app.specs.Words.{Name, in_range, machines_command, number_of, required, text_of_required}
use Rattle.bd_app.specs.declared.answer.Ended.{Ended}
use Rattle.bd_app.specs.declared.answer.Ended.TheVariants.{Ran}
use Rattle.bd_app.specs.declared.command.run.RunOptions.{RunOptions}

-- the pipeline, the specification, the case, and the number of cycles
pub record Run : Type 0 where
  pub pipe : Name
  pub spec : Name
  pub case : Name
  pub cycles : ℕ

-- ---- its words

-- run PIPE SPEC CASE CYCLES
abbrev pub run_command : Shape
run_command = machines_command (codes "run") (
    required (codes "CASE")
    ∷ in_range 0 1000 (required (codes "CYCLES"))
    ∷ [])

abbrev pub run_question : List Row → Run
run_question rows = record {
  pipe = text_of_required (codes "PIPE") rows;
  spec = text_of_required (codes "SPEC") rows;
  case = text_of_required (codes "CASE") rows;
  cycles = number_of (codes "CYCLES") rows;
}

-- the question of these options
abbrev pub run_of : RunOptions → Run
run_of options = record {
  pipe = options.pipe.now;
  spec = options.spec.now;
  case = options.case.now;
  cycles = options.cycles;
}

-- ---- its answers

-- cycle N, and a line for each entry
abbrev pub cycle_text : DesignView → ℕ → List Value → List ℕ
cycle_text d n state = codes "cycle " ++ decimal n ++ codes "\n" ++ state_text d state

-- states with numbers from n on
abbrev pub cycles_text : DesignView → ℕ → List (List Value) → List ℕ
cycles_text d n [] = []
cycles_text d n (state ∷ states) = cycle_text d n state ++ cycles_text d (n + 1) states

-- the case's state, and the states after each cycle
abbrev pub run_text : DesignView → Case → ℕ → List ℕ
run_text d c cycles = cycles_text d 0 (trace_of cycles d.pipe c.interp c.state c.inputs)

-- the run of the case, with so many cycles
pub record IsTrace (cycles : ℕ) (d : DesignView) (c : Case) (e : Ended) (report : List ℕ) :
    Type 0 where
  pub ended : e ≡ Ran
  pub states : report ≡ run_text d c cycles

-- the names of its files
abbrev pub run_names : Run → TextNames
run_names q = record { design = with_invariant q.pipe q.spec None; text = q.case }

abbrev pub run_meaning : Run → Meaning
run_meaning q = text_meaning case_kind (run_names q) (IsTrace q.cycles)
