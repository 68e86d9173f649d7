use Rattle.bd_app.specs.Words.{texts_of}
use Rattle.bd_show.specs.Meaning.{bounded}
use Rattle.bd_show.specs.inner.Answered.{bounded_of}
use Rattle.bd_show.proofs.Done.{done_on}
use Rattle.bd_show.proofs.program.answer_of.Goals as goal

pub returns-in-Ok-Bounded : goal.returns-in-Ok-Bounded
returns-in-Ok-Bounded g c =
    let run = c.in-Ok-Bounded in
    done_on (texts_of c.args.words.now) (bounded (bounded_of run.options)) _ _ c.answer-in-Ok-Bounded.result (rw run.field-0-is at run.ensures.asked) c.answer-in-Ok-Bounded.ensures
