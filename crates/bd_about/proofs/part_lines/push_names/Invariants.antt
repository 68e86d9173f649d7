use Rattle.std.proofs.Common.{◌≡◌, ◌++◌, true, false, drop}
use Rattle.std.specs.Prelude.{slice_index_or}
use Rattle.bd_about.specs.PartLines.{listed_names, names_at, shown}
use Rattle.bd_about.proofs.part_lines.push_names.Given as goal

abbrev pub invariant-loop-place : goal.invariant-loop-place
invariant-loop-place l =
    l.out.items ++ listed_names l.none (names_at (λ i. shown l.visible (slice_index_or l.flags i false)) l.place (drop l.place l.entries))
    ≡ l.initial.out.items ++ listed_names true (names_at (λ i. shown l.visible (slice_index_or l.flags i false)) 0 l.entries)
