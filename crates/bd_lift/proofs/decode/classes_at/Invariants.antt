use Rattle.std.proofs.Common.{◌≡◌, ℕ, take, Some, None}
use Rattle.std.specs.Prelude.{nat_eq, if◌then◌else◌}
use Rattle.std.specs.Map.{lookup}
use Rattle.bd_transitive.specs.Triangle.{class_of}
use Rattle.bd_lift.specs.Decoded.{is_end}
use Rattle.bd_lift.proofs.decode.classes_at.Given as goal

abbrev pub invariant-loop-edge : goal.invariant-loop-edge
invariant-loop-edge l = (x : ℕ) → lookup (nat_eq x) l.ends.entries ≡ (if is_end (take l.edge-index l.edges) x then Some (class_of l.vertices.keys l.classes x) else None)
