use Rattle.std.proofs.Common.{◌≡◌, ◌≤◌, ◌++◌, append_assoc, length, string_bytes, ap, sym, subst, ◌∙◌}
use Rattle.bd_gen.specs.Pipeline.{declarations, lets, nexts, flush_line, steps_line}
use Rattle.bd_gen.proofs.Lengths.{pipeline_short}
use Rattle.bd_gen.proofs.generated.design_text.Goals as goal

pub returns-clause-pipeline : goal.returns-clause-pipeline
returns-clause-pipeline c =
    let depth = c.args.depth in
    let drop = c.args.drop in
    let declared : string_bytes c.push_declarations.new.text ≡ declarations depth = c.in_ok-push_declarations.ensures ∙ ap (λ t. t ++ declarations depth) c.new-pipeline.ensures.bytes in
    let to_lets : string_bytes c.push_lets.new.text ≡ declarations depth ++ lets depth drop = c.in_ok-push_lets.ensures ∙ ap (λ t. t ++ lets depth drop) declared in
    let to_nexts : string_bytes c.push_nexts.new.text ≡ declarations depth ++ lets depth drop ++ nexts depth = c.in_ok-push_nexts.ensures ∙ ap (λ t. t ++ nexts depth) to_lets in
    let flush : string_bytes c.write.new.self ≡ string_bytes c.push_nexts.new.text ++ flush_line depth = simp append_assoc c.in_ok-write.ensures.bytes in
    let to_flush : string_bytes c.write.new.self ≡ declarations depth ++ lets depth drop ++ nexts depth ++ flush_line depth = flush ∙ ap (λ t. t ++ flush_line depth) to_nexts in
    ap (λ v. v.items) c.into_bytes.ensures.value ∙ c.in_ok-push_str.ensures.bytes ∙ ap (λ t. t ++ steps_line) to_flush

pub returns-clause-short : goal.returns-clause-short
returns-clause-short c = subst (λ text. length text ≤ 65536) (sym (returns-clause-pipeline c)) (pipeline_short c.args.depth c.args.drop c.requires.bounded)
