use Rattle.std.proofs.Common.{◌≡◌, ◌<◌, length, sym, ◌∙◌, arith}
use Rattle.bd_diverse.specs.inner.Walked.{only_free, with_ways}
use Rattle.bd_diverse.proofs.Passing.{freely-more}
use Rattle.bd_diverse.proofs.occurrences.mark_all.Goals as goal

pub loop-id-preserved : goal.loop-id-preserved
loop-id-preserved c =
    let inside : c.loop-id.id-index < length c.args.ids.now = omega arith in
    c.mark.ensures
    ∙ (λ j. with_ways (c.loop-id.invariant j) (c.id-item.is j) only_free)
    ∙ sym (freely-more c.args.marks.now c.args.ids.now c.loop-id.id-index c.id-item.result inside)
