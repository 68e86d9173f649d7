use Rattle.std.proofs.Common.{◌∙◌, inl, sym, ap}
use Rattle.std.specs.Prelude.{option_map}
use Rattle.bd_app.specs.Words.{texts_of}
use Rattle.bd_app.proofs.WordValues.{rows_met, seen}
use Rattle.bd_show.specs.inner.Asked.{asked}
use Rattle.bd_show.proofs.Asked.{met}
use Rattle.bd_show.proofs.command.command_of.Goals as goal

pub returns-in_default-clause-fault : goal.returns-in_default-clause-fault
returns-in_default-clause-fault c =
    let parsed = c.in_ok-matches.ensures.parsed in
    let rows = rows_met _ c.subcommand.result c.subcommand.ensures.name c.subcommand.ensures.rows in
    (met (texts_of c.args.words.now) _ parsed.no_fault (sym parsed.met ∙ rows ∙ ap (option_map seen) c.in_default.is), inl parsed.no_fault)

pub returns-in-Some-question-clause-asked : goal.returns-in-Some-question-clause-asked
returns-in-Some-question-clause-asked c =
    let parsed = c.in_ok-matches.ensures.parsed in
    let rows = rows_met _ c.subcommand.result c.subcommand.ensures.name c.subcommand.ensures.rows in
    met (texts_of c.args.words.now) _ parsed.no_fault (sym parsed.met ∙ rows ∙ ap (option_map seen) c.in-Some.is)
    ∙ sym c.question.ensures.asked ∙ ap (option_map asked) c.in-Some-question.is

pub returns-clause-fault : goal.returns-clause-fault
returns-clause-fault c =
    let parsed = c.in_ok-matches.ensures.parsed in
    let rows = rows_met _ c.subcommand.result c.subcommand.ensures.name c.subcommand.ensures.rows in (
      met (texts_of c.args.words.now) _ parsed.no_fault (sym parsed.met ∙ rows ∙ ap (option_map seen) c.in-Some.is)
          ∙ sym c.question.ensures.asked ∙ ap (option_map asked) c.in-None.is,
      inl parsed.no_fault,
    )
