use Rattle.std.proofs.Common.{List, ℕ, Bor}
use Rattle.std.specs.Str.{IsUtf8}
use Rattle.std.proofs.lemmas.Result.{err_from_is_err_and}
use Rattle.bd_web.proofs.Parts.{all_at, same_error}
use Rattle.bd_web.proofs.handed.texts.Goals as goal

pub returns-in_err-text-clause-not_text : goal.returns-in_err-text-clause-not_text
returns-in_err-text-clause-not_text c =
    let p = err_from_is_err_and c.from_residual.result c.from_residual.ensures.1 in
    rw (p.1, p.2) (λ is all. c.in_err-text.ensures.not_text (same_error _ _ is) (all_at (λ (part : Bor (List ℕ)). part.now) IsUtf8 c.args.parts.now c.loop-part.part-index _ c.loop-part-test.true all))
