use Rattle.std.proofs.Common.{◌≡◌, [], replicate}
use Rattle.bd_transitive.proofs.rows.empty_rows.Given as goal

abbrev pub invariant-loop-place : goal.invariant-loop-place
invariant-loop-place l = l.rows.items ≡ replicate l.place []
