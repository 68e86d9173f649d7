use Rattle.std.proofs.Common.{◌≡◌, ◌++◌, true, drop}
use Rattle.bd_about.specs.ApplicationLines.{all_said}
use Rattle.bd_about.specs.PartLines.{listed_names}
use Rattle.bd_about.proofs.application_lines.push_line.Given as goal

abbrev pub invariant-loop-place : goal.invariant-loop-place
invariant-loop-place l =
    l.out.items ++ listed_names l.none (all_said l.listing (drop l.place l.symbols) (drop l.place l.counts))
    ≡ l.initial.out.items ++ listed_names true (all_said l.listing l.symbols l.counts)
