use Rattle.std.proofs.Common.{◌≡◌, ◌∙◌, ℕ, List, [], ap, append_assoc, codes, refl, subst}
use Rattle.std.specs.Prelude.{◌∷◌, ◌++◌}
use Rattle.bd_files.specs.Devices.{PutsOrFaults}
use Rattle.bd_files.specs.Pieces.{PutsInPieces}
use Rattle.bd_app.specs.Pieces.{proof_pieces}
use Rattle.bd_app.specs.ProofFaults.{proof_line, proof_line_of}
use Rattle.bd_app.specs.inner.ProofLine.{proof_parts}
use Rattle.bd_app.proofs.proof_fault.put_proof_fault.Goals as goal

-- the words and the number are what stands after the text
joined : (line column code text words number : List ℕ) → proof_parts line column code text words number ≡ proof_line_of line column code text (words ++ number)
joined line column code text words number =
    ap (λ (l : List ℕ). l ++ 10 ∷ []) (append_assoc (codes "proof:" ++ line ++ codes ":" ++ column ++ codes ": " ++ code ++ codes " " ++ text) words number)

pub returns-clause-line : goal.returns-clause-line
returns-clause-line g c =
    let line = c.as_bytes-line.ensures.value ∙ c.format.ensures.text in
    let column = c.as_bytes-column.ensures.value ∙ c.format-2.ensures.text in
    let code = c.as_bytes.ensures.value ∙ c.name.ensures in
    let text = c.as_bytes-2.ensures.value ∙ c.text.ensures in
    let words = c.why_parts-number.result.0.now in
    let parts = joined c.as_bytes-line.result.now c.as_bytes-column.result.now c.as_bytes.result.now c.as_bytes-2.result.now words c.digits-number.result.now in
    let same : proof_line_of c.as_bytes-line.result.now c.as_bytes-column.result.now c.as_bytes.result.now c.as_bytes-2.result.now (words ++ c.digits-number.result.now) ≡ proof_line c.args.line c.args.column c.args.why =
    rw (line, column, code, text, c.digits-number.ensures, c.code_of-code.ensures, c.why_parts-number.ensures) refl in
    subst (λ line. PutsOrFaults g.E.Sink.written g.E.Sink.faults c.args.err.now c.put_parts.new.err line) (parts ∙ same) c.put_parts.ensures.line

pub returns-clause-pieces : goal.returns-clause-pieces
returns-clause-pieces g c =
    let line = c.as_bytes-line.ensures.value ∙ c.format.ensures.text in
    let column = c.as_bytes-column.ensures.value ∙ c.format-2.ensures.text in
    let code = c.as_bytes.ensures.value ∙ c.name.ensures in
    let text = c.as_bytes-2.ensures.value ∙ c.text.ensures in
    let words = c.why_parts-number.result.0.now in
    let parts = joined c.as_bytes-line.result.now c.as_bytes-column.result.now c.as_bytes.result.now c.as_bytes-2.result.now words c.digits-number.result.now in
    let same : proof_line_of c.as_bytes-line.result.now c.as_bytes-column.result.now c.as_bytes.result.now c.as_bytes-2.result.now (words ++ c.digits-number.result.now) ≡ proof_line c.args.line c.args.column c.args.why =
    rw (line, column, code, text, c.digits-number.ensures, c.code_of-code.ensures, c.why_parts-number.ensures) refl in
    subst (λ line. PutsInPieces g.E.Sink.written g.E.Sink.faults g.E.Sink.puts c.args.err.now c.put_parts.new.err line proof_pieces) (parts ∙ same) c.put_parts.ensures.pieces
