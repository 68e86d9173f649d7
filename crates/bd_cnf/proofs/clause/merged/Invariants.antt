use Rattle.std.proofs.Common.{◌≡◌, ℕ, ◌≤◌, take, get_or, length}
use Rattle.bd_cnf.specs.Literal.{Literal}
use Rattle.bd_cnf.proofs.Rising.{IsMerged}
use Rattle.bd_cnf.proofs.clause.merged.Given as goal

abbrev pub invariant-loop-place : goal.invariant-loop-place
invariant-loop-place l = record {
  low : l.kept ≤ l.place;
  long : length l.lits.items ≡ length l.fn.sorted.items;
  merged : IsMerged (take l.kept l.lits.items) (take l.place l.fn.sorted.items);
  rest : (k : ℕ) (d : Literal) → l.place ≤ k → get_or l.lits.items k d ≡ get_or l.fn.sorted.items k d;
}
