use Rattle.bd_cnf.specs.Assignment.{value_of}
use Rattle.bd_tseitin.proofs.Decoded.{AreInputs}
use Rattle.bd_tseitin.proofs.inputs.inputs_of.Given as goal

abbrev pub invariant-loop-row : goal.invariant-loop-row
invariant-loop-row l = AreInputs (value_of l.a) l.row-items l.row-index l.values
