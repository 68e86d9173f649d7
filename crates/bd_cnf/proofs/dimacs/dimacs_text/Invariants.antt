use Rattle.std.proofs.Common.{◌≡◌, ◌++◌, string_bytes, take, length}
use Rattle.std.specs.List.{flat_map}
use Rattle.bd_cnf.specs.Problem.{problem_line, clause_line}
use Rattle.bd_cnf.proofs.dimacs.dimacs_text.Given as goal

abbrev pub invariant-loop-clause : goal.invariant-loop-clause
invariant-loop-clause l = string_bytes l.text ≡ problem_line l.fn.cnf.vars (length l.clauses) ++ flat_map clause_line (take l.clause-index l.clauses)
