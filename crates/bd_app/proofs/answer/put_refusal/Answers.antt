use Rattle.std.proofs.Common.{◌≡◌, ◌∙◌, refl, subst}
use Rattle.bd_files.specs.Devices.{PutsOrFaults}
use Rattle.bd_files.specs.Pieces.{PutsInPieces}
use Rattle.bd_app.specs.Answer.{refusal_line, refusal_of}
use Rattle.bd_app.specs.Pieces.{refusal_pieces}
use Rattle.bd_app.proofs.answer.put_refusal.Goals as goal

pub returns-clause-line : goal.returns-clause-line
returns-clause-line g c =
    let offset = c.as_bytes-offset.ensures.value ∙ c.format.ensures.text in
    let code = c.as_bytes.ensures.value ∙ c.name.ensures in
    let text = c.as_bytes-2.ensures.value ∙ c.text.ensures in
    let same : refusal_of c.file_word.result.now c.as_bytes-offset.result.now c.as_bytes.result.now c.as_bytes-2.result.now ≡ refusal_line c.args.file c.args.offset c.args.code =
    rw (c.file_word.ensures, offset, code, text) refl in
    subst (λ line. PutsOrFaults g.E.Sink.written g.E.Sink.faults c.args.err.now c.put_parts.new.err line) same c.put_parts.ensures.line

pub returns-clause-pieces : goal.returns-clause-pieces
returns-clause-pieces g c =
    let offset = c.as_bytes-offset.ensures.value ∙ c.format.ensures.text in
    let code = c.as_bytes.ensures.value ∙ c.name.ensures in
    let text = c.as_bytes-2.ensures.value ∙ c.text.ensures in
    let same : refusal_of c.file_word.result.now c.as_bytes-offset.result.now c.as_bytes.result.now c.as_bytes-2.result.now ≡ refusal_line c.args.file c.args.offset c.args.code =
    rw (c.file_word.ensures, offset, code, text) refl in
    subst (λ line. PutsInPieces g.E.Sink.written g.E.Sink.faults g.E.Sink.puts c.args.err.now c.put_parts.new.err line refusal_pieces) same c.put_parts.ensures.pieces
