use Rattle.std.proofs.Common.{◌≡◌, ◌+◌, ◌*◌, ◌++◌, ◌∷◌, [], List, ℕ, Bor, map, take, sym, subst, arith, rules}
use Rattle.std.specs.Str.{IsUtf8}
use Rattle.std.proofs.lemmas.Result.{err_from_is_err_and}
use Rattle.bd_files.specs.Shelf.{files_of}
use Rattle.bd_web.specs.Handed.{file_parts}
use Rattle.bd_web.proofs.Parts.{files_more, name_at, same_error}
use Rattle.bd_web.proofs.handed.files.Goals as goal

pub returns-in_err-file-clause-not_text : goal.returns-in_err-file-clause-not_text
returns-in_err-file-clause-not_text c =
    let p = err_from_is_err_and c.from_residual.result c.from_residual.ensures.1 in
    rw (p.1, p.2) (λ is all. c.in_err-file.ensures.not_text (same_error _ _ is) (name_at (λ (part : Bor (List ℕ)). part.now) IsUtf8 c.args.parts.now c.loop-i.i _ (omega (arith, c.loop-i-test.true)) all))

pub loop-i-preserved : goal.loop-i-preserved
loop-i-preserved c =
    let pushed : c.push.new.self.items ≡ c.loop-i.files.items ++ c.in_ok-file.file ∷ [] = search rules in
    subst (λ items. file_parts (files_of items) ≡ take (2 * (c.loop-i.i + 1)) (map (λ (part : Bor (List ℕ)). part.now) c.args.parts.now)) (sym pushed)
    (files_more (λ (part : Bor (List ℕ)). part.now) c.loop-i.files.items c.in_ok-file.file c.args.parts.now c.loop-i.i _ _ (omega (arith, c.loop-i-test.true, c.if-parts-ne0.false)) c.loop-i.invariant c.in_ok-file.ensures.file.0 c.in_ok-file.ensures.file.1)
