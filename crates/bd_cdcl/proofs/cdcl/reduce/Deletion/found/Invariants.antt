use Rattle.std.proofs.Common.{◌<◌, ◌≤◌}
use Rattle.std.specs.List.{All, AllPairs}
use Rattle.bd_cdcl.specs.inner.Deletions.{AreUnmarked, MayDelete}
use Rattle.bd_cdcl.proofs.cdcl.reduce.Deletion.found.Given as goal

abbrev pub invariant-loop-place : goal.invariant-loop-place
invariant-loop-place l = record {
  may : All (MayDelete l.watch.clauses l.watch.trail.entries) l.ids.items;
  unmarked : AreUnmarked l.self.gone.items l.ids.items;
  low : All (λ id. id ≤ l.place) l.ids.items;
  rising : AllPairs (λ one other. one < other) l.ids.items;
}
