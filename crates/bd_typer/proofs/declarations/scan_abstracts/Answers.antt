use Rattle.std.proofs.Common.{◌+◌, [], ◌∷◌}
use Rattle.bd_typer.specs.inner.Held.{members}
use Rattle.bd_typer.proofs.RepeatedNames.{abstracts_from, abstracts-step, repeated-more, set-more}
use Rattle.bd_typer.proofs.declarations.scan_abstracts.Goals as goal

pub loop-part-preserved : goal.loop-part-preserved
loop-part-preserved c =
    let parts = c.args.parts.now in
    let i = c.loop-part.part-index in
    let part = c.part-item.result in
    let old = members c.loop-part.texts in
    let new = members c.see.new.texts in
    let e = c.in_ok-scanned.ensures in
    let a = c.loop-part.scanned.repeated in
    let step = abstracts-step parts i part c.loop-part-test.true c.part-item.is in
    record {
      repeated = repeated-more (part.name ∷ []) (abstracts_from parts i) (abstracts_from parts (i + 1)) step old new e.set a c.in_ok-scanned.scanned.repeated _ e.repeated c.loop-part.invariant.repeated;
      set = set-more (part.name ∷ []) (abstracts_from parts i) (abstracts_from parts (i + 1)) step old new e.set a a a _ c.loop-part.invariant.set;
    }
