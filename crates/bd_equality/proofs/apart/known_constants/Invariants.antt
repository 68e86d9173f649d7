use Rattle.bd_equality.proofs.Constants.{IsKept}
use Rattle.bd_equality.proofs.apart.known_constants.Given as goal

abbrev pub invariant-loop-sym : goal.invariant-loop-sym
invariant-loop-sym l = IsKept l.sym-items l.vertices l.sym-index l.constants
