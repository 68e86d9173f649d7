use Rattle.std.proofs.Common.{◌+◌, ◌∷◌, length, sym, ap, ◌∙◌}
use Rattle.bd_proof_text.specs.Tokens.{place, token, tokens_from}
use Rattle.bd_proof_text.proofs.Pieces.{Cuts, none-left, some-left}
use Rattle.bd_proof_text.proofs.token.Tokens.next_token.Goals as goal

pub returns-then-is_empty-clause-first : goal.returns-then-is_empty-clause-first
returns-then-is_empty-clause-first c =
    let i = c.self.inside in
    let cuts : Cuts i.rest.now c.blank_len-begin.result c.split_at.result.1.now c.run_len.result c.split_at-2.result.0.now =
    record { begin_is = c.blank_len-begin.ensures.first; rest_is = c.split_at.ensures.back; end_is = c.run_len.ensures.first; text_is = c.split_at-2.ensures.front } in
    let none = sym c.self.view_is
    ∙ none-left i.line i.column i.rest.now c.blank_len-begin.result c.split_at.result.1.now c.run_len.result c.split_at-2.result.0.now cuts (sym c.is_empty.ensures ∙ c.if-is_empty.true) in
    (none, none)

pub returns-clause-first : goal.returns-clause-first
returns-clause-first c =
    let i = c.self.inside in
    let cuts : Cuts i.rest.now c.blank_len-begin.result c.split_at.result.1.now c.run_len.result c.split_at-2.result.0.now =
    record { begin_is = c.blank_len-begin.ensures.first; rest_is = c.split_at.ensures.back; end_is = c.run_len.ensures.first; text_is = c.split_at-2.ensures.front } in
    sym c.self.view_is
    ∙ some-left i.line i.column i.rest.now c.blank_len-begin.result c.split_at.result.1.now c.run_len.result c.split_at-2.result.0.now c.split_at-2.result.1.now cuts
    c.split_at-2.ensures.back (sym c.is_empty.ensures ∙ c.if-is_empty.false)
    ∙ ap (λ w. token (place i.line (i.column + c.blank_len-begin.result)) w ∷ tokens_from i.line (i.column + c.blank_len-begin.result + length c.split_at-2.result.0.now) c.split_at-2.result.1.now)
    (sym c.word_of.ensures.word)
