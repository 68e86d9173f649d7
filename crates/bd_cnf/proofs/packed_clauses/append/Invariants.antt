use Rattle.std.proofs.Common.{◌≡◌, ◌+◌, ◌≤◌, ◌++◌, take, length, vec_len, vec_capacity}
use Rattle.bd_cnf.proofs.packed_clauses.append.Given as goal

abbrev pub invariant-loop-lit : goal.invariant-loop-lit
invariant-loop-lit l = record {
  items : l.literals.items ≡ l.fn.literals.items ++ take l.lit-index l.clause;
  len : vec_len l.literals ≡ vec_len l.fn.literals + l.lit-index;
  room : vec_len l.fn.literals + length l.clause ≤ vec_capacity l.literals;
}
