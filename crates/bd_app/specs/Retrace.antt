-- `retrace`: what a trail shows.
use Rattle.std.specs.Prelude.{◌≡◌, ℕ, List, [], ◌∷◌, ◌++◌, codes}
use Rattle.std.specs.Fmt.{decimal}
use Rattle.clap.specs.Simple.{Shape}
use Rattle.clap.specs.Walk.{Row}
use Rattle.bd_model.specs.DesignView.{DesignView}
use Rattle.bd_model.specs.TrailJudged.{IsTrailJudged}
use Rattle.bd_model.specs.declared.case.Trail.{Trail}
use Rattle.bd_model.specs.declared.case.TrailJudged.{TrailJudged}
use Rattle.bd_model.specs.declared.case.TrailJudged.TheVariants as judged
use Rattle.bd_app.specs.Files.{TextNames, text_names, with_start}
use Rattle.bd_app.specs.Meaning.{Meaning}
use Rattle.bd_app.specs.Questions.{text_meaning}
use Rattle.bd_app.specs.Texts.{trail_kind}
use Rattle.bd_app.specs.Words.{machines_command, required, text_of_required}
use Rattle.bd_app.specs.declared.answer.Ended.{Ended}
use Rattle.bd_app.specs.declared.answer.Ended.TheVariants.{Retraced}
use Rattle.bd_app.specs.declared.load.TextFiles.{TextFiles}

-- the pipeline, the specification, the trail and the start
abbrev pub Retrace : Type 0
Retrace = TextNames

-- ---- its words

-- retrace PIPE SPEC TRAIL START
abbrev pub retrace_command : Shape
retrace_command = machines_command (codes "retrace")
    (required (codes "TRAIL") ∷ required (codes "START") ∷ [])

abbrev pub retrace_question : List Row → Retrace
retrace_question rows = record {
  design = with_start (text_of_required (codes "PIPE") rows)
      (text_of_required (codes "SPEC") rows) (text_of_required (codes "START") rows);
  text = text_of_required (codes "TRAIL") rows;
}

-- the question of these options
abbrev pub retrace_of : TextFiles → Retrace
retrace_of = text_names

-- ---- its answers

abbrev pub retraced_words : TrailJudged → List ℕ
retraced_words judged.Holds = codes "holds"
retraced_words judged.Outside = codes "outside"
retraced_words (judged.Broken cycle) = codes "broken commute " ++ decimal cycle

-- the judgement of the trail, in words
pub record IsRetraced (d : DesignView) (t : Trail) (e : Ended) (report : List ℕ) : Type 0 where
  pub judgement : TrailJudged
  pub is_judged : IsTrailJudged d t judgement
  pub ended : e ≡ Retraced judgement
  pub words : report ≡ retraced_words judgement ++ 10 ∷ []

abbrev pub retrace_meaning : Retrace → Meaning
retrace_meaning q = text_meaning trail_kind q IsRetraced
