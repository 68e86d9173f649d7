-- So far the first parts are files.
use Rattle.std.proofs.Common.{◌≡◌, ◌*◌, map, take}
use Rattle.bd_files.specs.Shelf.{files_of}
use Rattle.bd_web.specs.Handed.{file_parts}
use Rattle.bd_web.proofs.handed.files.Given as goal

abbrev pub invariant-loop-i : goal.invariant-loop-i
invariant-loop-i l = file_parts (files_of l.files.items) ≡ take (2 * l.i) (map (λ part. part.now) l.parts)
