use Rattle.std.proofs.lemmas.Result.{IfOk-weaker}
use Rattle.bd_app.specs.Words.{texts_of}
use Rattle.bd_files.specs.Shelf.{files_of}
use Rattle.bd_web.proofs.Coming.{comes}
use Rattle.bd_web.proofs.page.run_bytes.Goals as goal

pub returns-clause-ran : goal.returns-clause-ran
returns-clause-ran c =
    let handed = c.in_ok-read_handed.field-0 in
    IfOk-weaker c.run_handed.result _ _ (λ came laid. comes c.args.bytes.now c.args.lengths.now c.args.words came.status (texts_of handed.words.items) (files_of handed.files.items) came.back.bytes.items came.back.lengths.items c.in_ok-read_handed.ensures.handed laid) c.run_handed.ensures.ran
