use Rattle.std.proofs.Common.{◌∙◌, ◌++◌, ◌∷◌, [], length, ap}
use Rattle.bd_web.proofs.Parts.{bytes_added, lengths_added}
use Rattle.bd_web.proofs.back.Parts.add_files.Goals as goal

pub loop-file-preserved : goal.loop-file-preserved
loop-file-preserved c =
    let name = c.as_bytes.result.now in
    let named = c.as_bytes.ensures.value ∙ c.as_str.ensures.value in
    record {
      bytes = bytes_added c.args.self.now.bytes.items _ _ c.args.files.now c.loop-file.file-index c.file-item.result name c.as_slice.result.now c.loop-file-test.true c.file-item.is named c.as_slice.ensures.value (c.in_ok-add.ensures.bytes ∙ ap (λ b. b ++ name) c.loop-file.invariant.bytes) c.in_ok-add-2.ensures.bytes;
      lengths = lengths_added c.args.self.now.lengths.items _ _ c.args.files.now c.loop-file.file-index c.file-item.result name c.as_slice.result.now c.loop-file-test.true c.file-item.is named c.as_slice.ensures.value (c.in_ok-add.ensures.lengths ∙ ap (λ b. b ++ length name ∷ []) c.loop-file.invariant.lengths) c.in_ok-add-2.ensures.lengths;
    }
