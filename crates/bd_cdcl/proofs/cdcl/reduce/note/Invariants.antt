use Rattle.std.proofs.Common.{◌≡◌, ◌<◌, ℕ, length, slice_index_or, true, false}
use Rattle.bd_cdcl.specs.inner.Deletions.{KeepsMarks}
use Rattle.bd_cdcl.proofs.cdcl.reduce.note.Given as goal

abbrev pub invariant-loop-id : goal.invariant-loop-id
invariant-loop-id l = record {
  sized : l.count < length l.gone.items;
  kept : KeepsMarks l.fn.gone.items l.gone.items;
  marked : (k d : ℕ) → k < l.id-index → slice_index_or l.gone.items (slice_index_or l.ids k d) false ≡ true;
}
