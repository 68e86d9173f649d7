use Rattle.std.proofs.Common.{◌≡◌, ◌++◌, string_bytes, take}
use Rattle.bd_cnf.specs.Problem.{literals_text}
use Rattle.bd_cnf.proofs.dimacs.push_literals.Given as goal

abbrev pub invariant-loop-lit : goal.invariant-loop-lit
invariant-loop-lit l = string_bytes l.text ≡ string_bytes l.fn.text ++ literals_text (take l.lit-index l.lits)
