-- So far the first parts are texts.
use Rattle.std.proofs.Common.{◌≡◌, map, take}
use Rattle.bd_app.specs.Words.{texts_of}
use Rattle.bd_web.proofs.handed.texts.Given as goal

abbrev pub invariant-loop-part : goal.invariant-loop-part
invariant-loop-part l = texts_of l.texts.items ≡ map (λ part. part.now) (take l.part-index l.parts)
