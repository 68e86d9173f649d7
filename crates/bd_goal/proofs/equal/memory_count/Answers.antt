use Rattle.std.proofs.Common.{arith, ap, sym, ◌∙◌, ◌+◌, length, take}
use Rattle.std.proofs.lemmas.List.{take_all}
use Rattle.bd_goal.proofs.Counting.{memories-few, memories-more, memories_in}
use Rattle.bd_goal.proofs.equal.memory_count.Goals as goal

pub overflow_add-count : goal.overflow_add-count
overflow_add-count c =
    let more = memories-more c.as_slice-entry-items.result.now c.loop-entry.entry-index c.entry-item.result c.loop-entry-test.true c.entry-item.is in
    let few = memories-few c.as_slice-entry-items.result.now (c.loop-entry.entry-index + 1) in
    omega (arith, more, few, c.advance-count.ensures, c.loop-entry.invariant, ap length c.as_slice-entry-items.ensures, c.requires.spec.short.0)

pub loop-entry-preserved : goal.loop-entry-preserved
loop-entry-preserved c =
    let more = memories-more c.as_slice-entry-items.result.now c.loop-entry.entry-index c.entry-item.result c.loop-entry-test.true c.entry-item.is in
    ap (λ k. k + c.advance-count.result) c.loop-entry.invariant
    ∙ ap (λ k. memories_in (take c.loop-entry.entry-index c.as_slice-entry-items.result.now) + k) c.advance-count.ensures
    ∙ sym more

pub returns-clause-count : goal.returns-clause-count
returns-clause-count c = c.loop-entry.invariant ∙ ap memories_in (take_all _ _ c.loop-entry-test.false ∙ c.as_slice-entry-items.ensures)

pub returns-clause-few : goal.returns-clause-few
returns-clause-few c =
    let few = memories-few c.as_slice-entry-items.result.now c.loop-entry.entry-index in
    omega (arith, few, c.loop-entry.invariant, ap length c.as_slice-entry-items.ensures, c.requires.spec.short.0)
