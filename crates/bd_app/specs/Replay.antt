-- `replay`: what a case shows.
use Rattle.std.specs.Prelude.{◌≡◌, ℕ, List, [], ◌∷◌, ◌++◌, codes}
use Rattle.clap.specs.Simple.{Shape}
use Rattle.clap.specs.Walk.{Row}
use Rattle.bd_model.specs.DesignView.{DesignView}
use Rattle.bd_model.specs.Conditions.{IsJudged}
use Rattle.bd_model.specs.declared.case.Case.{Case}
use Rattle.bd_model.specs.declared.case.Condition.TheVariants as condition
use Rattle.bd_model.specs.declared.case.Judged.{Judged}
use Rattle.bd_model.specs.declared.case.Judged.TheVariants as judged
use Rattle.bd_app.specs.Files.{TextNames, text_names, text_question}
use Rattle.bd_app.specs.Meaning.{Meaning}
use Rattle.bd_app.specs.Questions.{text_meaning}
use Rattle.bd_app.specs.Texts.{case_kind}
use Rattle.bd_app.specs.Words.{text_command}
use Rattle.bd_app.specs.declared.answer.Ended.{Ended}
use Rattle.bd_app.specs.declared.answer.Ended.TheVariants.{Replayed}
use Rattle.bd_app.specs.declared.load.TextFiles.{TextFiles}

-- the pipeline, the specification, the case, and maybe the invariant
abbrev pub Replay : Type 0
Replay = TextNames

-- ---- its words

-- replay PIPE SPEC CASE [INV]
abbrev pub replay_command : Shape
replay_command = text_command (codes "replay") (codes "CASE") []

abbrev pub replay_question : List Row → Replay
replay_question = text_question (codes "CASE")

-- the question of these options
abbrev pub replay_of : TextFiles → Replay
replay_of = text_names

-- ---- its answers

abbrev pub judged_words : Judged → List ℕ
judged_words judged.Holds = codes "holds"
judged_words judged.Outside = codes "outside"
judged_words (judged.Broken condition.Invariant) = codes "broken invariant"
judged_words (judged.Broken condition.Commute) = codes "broken commute"

-- the judgement of the case, in words
pub record IsJudgement (d : DesignView) (c : Case) (e : Ended) (report : List ℕ) : Type 0 where
  pub judgement : Judged
  pub is_judged : IsJudged d c judgement
  pub ended : e ≡ Replayed judgement
  pub words : report ≡ judged_words judgement ++ 10 ∷ []

abbrev pub replay_meaning : Replay → Meaning
replay_meaning q = text_meaning case_kind q IsJudgement
