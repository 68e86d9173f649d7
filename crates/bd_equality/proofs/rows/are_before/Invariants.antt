use Rattle.std.proofs.Common.{◌≡◌, ◌<◌, ℕ, Some, slice_get}
use Rattle.bd_equality.proofs.rows.are_before.Given as goal

abbrev pub invariant-loop-arg : goal.invariant-loop-arg
invariant-loop-arg l = (k x : ℕ) → k < l.arg-index → slice_get l.args k ≡ Some x → x < l.id
