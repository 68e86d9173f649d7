-- `gen`: the verdict on a generated pipeline.
use Rattle.std.specs.Prelude.{◌≡◌, ◌*◌, ◌-◌, ◌≤◌, false, ℕ, List, [], ◌∷◌, ◌++◌, codes, max, min, Some, None}
use Rattle.std.specs.Fmt.{decimal}
use Rattle.clap.specs.Simple.{Shape}
use Rattle.clap.specs.Walk.{Row}
use Rattle.bd_gen.specs.Pipeline.{pipeline_text}
use Rattle.bd_gen.specs.Specification.{specification_text}
use Rattle.bd_typer.specs.declared.premise.Premise.TheVariants.{Invariant}
use Rattle.bd_verify.specs.declared.verdict.Mode.TheVariants.{Plain}
use Rattle.bd_app.specs.Meaning.{IsDesignAnswer, Meaning, no_proof}
use Rattle.bd_app.specs.Sources.{IsDesign, IsDesignFault, Sources}
use Rattle.bd_app.specs.Verdicts.{IsVerdictReport}
use Rattle.bd_app.specs.Words.{command, in_range, number_of, required}
use Rattle.bd_app.specs.declared.verdict.Asked.{Asked}
use Rattle.bd_app.specs.declared.command.generate.GenOptions.{GenOptions}

-- the depth, and the path that is left out
pub record Gen : Type 0 where
  pub depth : ℕ
  pub drop : ℕ

-- ---- its words

-- the least and the most stages of a generated pipeline
abbrev pub least_depth : ℕ
least_depth = 2

abbrev pub most_depth : ℕ
most_depth = 12

-- gen DEPTH DROP
abbrev pub gen_command : Shape
gen_command = command (codes "gen") (
    in_range least_depth most_depth (required (codes "DEPTH"))
    ∷ in_range 0 11 (required (codes "DROP"))
    ∷ [])

abbrev pub gen_question : List Row → Gen
gen_question rows = record {
  depth = max least_depth (min (number_of (codes "DEPTH") rows) most_depth);
  drop = number_of (codes "DROP") rows;
}

-- the question of these options
abbrev pub gen_of : GenOptions → Gen
gen_of options = record { depth = options.depth; drop = options.drop }

-- the depth of a generated pipeline is in its range
abbrev pub HasDepth : GenOptions → Type 0
HasDepth options = (least_depth ≤ options.depth) × (options.depth ≤ most_depth)

-- ---- its answers

-- the texts of the generated pipeline, and of its specification
abbrev pub generated : Gen → Sources
generated q = record {
  pipe = pipeline_text q.depth q.drop;
  spec = specification_text;
  premise = Invariant;
  third = None;
}

-- what its line begins with: which pipeline it is, and its latches
abbrev pub gen_lead : Gen → List ℕ
gen_lead q =
    codes "gen " ++ decimal q.depth ++ codes " " ++ decimal q.drop ++ codes " latches "
    ++ decimal (3 * q.depth - 1) ++ codes " "

-- what is asked of it
abbrev pub gen_asked : Asked
gen_asked = record { budget = 200000; mode = Plain; given = false }

abbrev pub gen_meaning : Gen → Meaning
gen_meaning q = record {
  files = [];
  cnf = None;
  lrat = None;
  Asks = λ held d. IsDesign (λ s. s ≡ generated q) d;
  verdict = Some gen_asked;
  IsTextFault = λ held file offset code. IsDesignFault (λ s. s ≡ generated q) file offset code;
  IsProofFault = no_proof;
  IsAnswer = IsDesignAnswer (λ held d. IsDesign (λ s. s ≡ generated q) d)
      (IsVerdictReport gen_asked false (gen_lead q));
}
