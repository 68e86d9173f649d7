use Rattle.std.proofs.Common.{take}
use Rattle.bd_terms.specs.Graph.{KeepsSymbol}
use Rattle.bd_terms.proofs.graph.Graph.keeps_symbol.Given as goal

abbrev pub invariant-loop-node : goal.invariant-loop-node
invariant-loop-node l = KeepsSymbol (take l.node-index l.node-items) l.sym l.arity l.sort
