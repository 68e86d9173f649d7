use Rattle.std.proofs.Common.{◌≡◌, ℕ, false, drop}
use Rattle.std.specs.Prelude.{◌||◌, ◌==◌, slice_index_or}
use Rattle.std.specs.List.{list_any}
use Rattle.bd_about.proofs.part_lines.visible.Given as goal

abbrev pub invariant-loop-place : goal.invariant-loop-place
invariant-loop-place l =
    (i : ℕ) → (slice_index_or l.flags.items i false || list_any (λ place. place == i) (drop l.place-index l.place-items)) ≡ list_any (λ place. place == i) l.place-items
