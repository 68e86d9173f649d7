use Rattle.std.proofs.Common.{◌∷◌, ap, sym, ◌∙◌}
use Rattle.std.specs.Option.{option_copied}
use Rattle.bd_proof_text.specs.inner.Words.{after_feed, lines_left}
use Rattle.bd_proof_text.proofs.Pieces.{first-line}
use Rattle.bd_proof_text.proofs.lines.Lines.next_line.Goals as goal

pub returns : goal.returns
returns c =
    sym c.self.view_is ∙ ap (λ o. lines_left (option_copied o)) c.in_ok-bytes.was ∙ first-line c.in_ok-bytes.bytes.now c.line_len.result c.line_len.ensures.first
    ∙ (λ i. sym c.split_at.ensures.front i ∷ (ap after_feed (sym c.split_at.ensures.back) ∙ sym c.after_feed-self-inside.ensures) i)
