use Rattle.std.proofs.Common.{◌≡◌, ◌∙◌, ◌+◌, ◌++◌, List, ℕ, Bor, length, map, ap, sym, arith}
use Rattle.std.proofs.lemmas.List.{length-map}
use Rattle.std.proofs.lemmas.Result.{err_from_is_err_and}
use Rattle.bd_app.specs.Words.{texts_of}
use Rattle.bd_files.specs.Shelf.{files_of}
use Rattle.bd_web.proofs.Handing.{handed_of, no_text_of, none_of_lengths, none_of_odd}
use Rattle.bd_web.proofs.Parts.{map_split, same_error, split_is}
use Rattle.bd_web.proofs.handed.read_handed.Goals as goal

abbrev now_of : Bor (List ℕ) → List ℕ
now_of part = part.now

pub returns-in_err-parts-clause-not_parts : goal.returns-in_err-parts-clause-not_parts
returns-in_err-parts-clause-not_parts c =
    let p = err_from_is_err_and c.from_residual.result c.from_residual.ensures.1 in
    rw (p.1, p.2) (λ is words files. none_of_lengths c.args.bytes.now c.args.lengths.now c.args.count words files (c.in_err-parts.ensures.not_parts (same_error _ _ is)))

pub returns-in_err-words-clause-not_text : goal.returns-in_err-words-clause-not_text
returns-in_err-words-clause-not_text c =
    let p = err_from_is_err_and c.from_residual-in_err-words.result c.from_residual-in_err-words.ensures.1 in
    let cut = c.in-Some.ensures.cases in
    let all = sym c.as_slice.ensures.value ∙ split_is _ _ _ _ cut in
    rw (p.1, p.2) (λ is. no_text_of c.args.bytes.now c.args.lengths.now c.args.count (map now_of c.in_ok-parts.parts.items) (map now_of c.in-Some.words.now) (map now_of c.in-Some.rest.now) c.in_ok-parts.ensures.parts (map_split now_of _ _ _ all) (length-map c.in-Some.words.now now_of ∙ cut.3) (λ both. c.in_err-words.ensures.not_text (same_error _ _ is) both.0))

pub returns-in_err-files-clause-not_parts : goal.returns-in_err-files-clause-not_parts
returns-in_err-files-clause-not_parts c =
    let p = err_from_is_err_and c.from_residual-in_err-files.result c.from_residual-in_err-files.ensures.1 in
    let cut = c.in-Some.ensures.cases in
    let parts = map now_of c.in_ok-parts.parts.items in
    let size : length parts ≡ length c.in_ok-parts.parts.items = length-map c.in_ok-parts.parts.items now_of in
    let same : length c.as_slice.result.now ≡ length c.in_ok-parts.parts.items = ap length c.as_slice.ensures.value in
    let all : length parts ≡ c.args.count + length c.in-Some.rest.now = omega (arith, size, same, cut.4) in
    rw (p.1, p.2) (λ is words files. none_of_odd c.args.bytes.now c.args.lengths.now c.args.count (length c.in-Some.rest.now) parts words files c.in_ok-parts.ensures.parts all (c.in_err-files.ensures.not_parts (same_error _ _ is)))

pub returns-in_err-files-clause-not_text : goal.returns-in_err-files-clause-not_text
returns-in_err-files-clause-not_text c =
    let p = err_from_is_err_and c.from_residual-in_err-files.result c.from_residual-in_err-files.ensures.1 in
    let cut = c.in-Some.ensures.cases in
    let all = sym c.as_slice.ensures.value ∙ split_is _ _ _ _ cut in
    rw (p.1, p.2) (λ is. no_text_of c.args.bytes.now c.args.lengths.now c.args.count (map now_of c.in_ok-parts.parts.items) (map now_of c.in-Some.words.now) (map now_of c.in-Some.rest.now) c.in_ok-parts.ensures.parts (map_split now_of _ _ _ all) (length-map c.in-Some.words.now now_of ∙ cut.3) (λ both. c.in_err-files.ensures.not_text (same_error _ _ is) both.1))

pub returns-clause-handed : goal.returns-clause-handed
returns-clause-handed c =
    let cut = c.in-Some.ensures.cases in
    let all = sym c.as_slice.ensures.value ∙ split_is _ _ _ _ cut in
    let words = c.in_ok-words.ensures.texts in
    handed_of c.args.bytes.now c.args.lengths.now c.args.count (map now_of c.in_ok-parts.parts.items) (texts_of c.in_ok-words.words.items) (map now_of c.in-Some.rest.now) (files_of c.in_ok-files.files.items) c.in_ok-parts.ensures.parts (map_split now_of _ _ _ all ∙ ap (λ ws. ws ++ map now_of c.in-Some.rest.now) (sym words)) (ap length words ∙ length-map c.in-Some.words.now now_of ∙ cut.3) c.in_ok-files.ensures.files
