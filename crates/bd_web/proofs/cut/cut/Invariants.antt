-- So far the bytes are the parts and a rest, and the lengths are theirs.
use Rattle.std.proofs.Common.{◌≡◌, ◌++◌, length, map, take}
use Rattle.std.specs.List.{concat}
use Rattle.bd_web.proofs.cut.cut.Given as goal

abbrev pub invariant-loop-length : goal.invariant-loop-length
invariant-loop-length l = record {
  whole : l.bytes ≡ concat (map (λ part. part.now) l.parts.items) ++ l.rest;
  each : map length (map (λ part. part.now) l.parts.items) ≡ take l.length-index l.lengths;
}
