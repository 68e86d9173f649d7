-- So far the parts of the first files were added.
use Rattle.std.proofs.Common.{◌≡◌, ◌++◌, length, map, take}
use Rattle.std.specs.List.{concat}
use Rattle.bd_files.specs.Shelf.{files_of}
use Rattle.bd_web.specs.Handed.{file_parts}
use Rattle.bd_web.proofs.back.Parts.add_files.Given as goal

abbrev pub invariant-loop-file : goal.invariant-loop-file
invariant-loop-file l = record {
  bytes : l.self.bytes.items ≡ l.initial.self.bytes.items
      ++ concat (file_parts (files_of (take l.file-index l.files)));
  lengths : l.self.lengths.items ≡ l.initial.self.lengths.items
      ++ map length (file_parts (files_of (take l.file-index l.files)));
}
