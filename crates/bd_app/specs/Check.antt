-- `check`: the verdict on a pipeline.
use Rattle.std.specs.Prelude.{true, ℕ, List, [], ◌∷◌, codes, Option, Some, is_some}
use Rattle.clap.specs.Simple.{Shape, new_rule}
use Rattle.clap.specs.Walk.{Row, first_of}
use Rattle.bd_files.specs.Devices.{Held}
use Rattle.bd_verify.specs.declared.verdict.Mode.{Mode}
use Rattle.bd_app.specs.Files.{DesignNames, design_files, with_invariant}
use Rattle.bd_app.specs.Meaning.{IsDesignAnswer, Meaning, no_proof}
use Rattle.bd_app.specs.Sources.{HoldSources, IsDesign, IsDesignFault, Sources}
use Rattle.bd_app.specs.Verdicts.{IsVerdictReport}
use Rattle.bd_app.specs.Words.{Name, budget_option, flag, given, machines_command, mode_at, number_of, option, text_of_required}
use Rattle.bd_app.specs.declared.verdict.Asked.{Asked}
use Rattle.bd_app.specs.declared.command.check.CheckOptions.{CheckOptions}

-- the pipeline, the specification and maybe the invariant, the budget, where to save the formula
-- and the proof, and whether positive equality is used
pub record Check : Type 0 where
  pub pipe : Name
  pub spec : Name
  pub inv : Option Name
  pub budget : ℕ
  pub cnf : Option Name
  pub lrat : Option Name
  pub mode : Mode

-- ---- its words

-- check PIPE SPEC [INV] [--budget N] [--cnf FILE] [--lrat FILE] [--diverse]
abbrev pub check_command : Shape
check_command = machines_command (codes "check") (
    new_rule (codes "INV")
    ∷ budget_option
    ∷ option (codes "cnf")
    ∷ option (codes "lrat")
    ∷ flag (codes "diverse")
    ∷ [])

abbrev pub check_question : List Row → Check
check_question rows = record {
  pipe = text_of_required (codes "PIPE") rows;
  spec = text_of_required (codes "SPEC") rows;
  inv = first_of (codes "INV") rows;
  budget = number_of (codes "budget") rows;
  cnf = first_of (codes "cnf") rows;
  lrat = first_of (codes "lrat") rows;
  mode = mode_at (codes "diverse") rows;
}

-- the question of these options
abbrev pub check_of : CheckOptions → Check
check_of options = record {
  pipe = options.pipe.now;
  spec = options.spec.now;
  inv = given options.inv;
  budget = options.budget;
  cnf = given options.cnf;
  lrat = given options.lrat;
  mode = options.mode;
}

-- ---- its answers

-- the names of the files of the design
abbrev pub check_names : Check → DesignNames
check_names q = with_invariant q.pipe q.spec q.inv

-- its sources
abbrev pub CheckSources : Check → Held → Sources → Type 0
CheckSources q held = HoldSources held (check_names q)

-- what is asked of it
abbrev pub check_asked : Check → Asked
check_asked q = record { budget = q.budget; mode = q.mode; given = is_some q.inv }

abbrev pub check_meaning : Check → Meaning
check_meaning q = record {
  files = design_files (check_names q);
  cnf = q.cnf;
  lrat = q.lrat;
  Asks = λ held d. IsDesign (CheckSources q held) d;
  verdict = Some (check_asked q);
  IsTextFault = λ held file offset code. IsDesignFault (CheckSources q held) file offset code;
  IsProofFault = no_proof;
  IsAnswer = IsDesignAnswer (λ held d. IsDesign (CheckSources q held) d)
      (IsVerdictReport (check_asked q) true []);
}
