use Rattle.std.proofs.Common.{take}
use Rattle.bd_verify.specs.Kept.{AddsRows, AreVariables}
use Rattle.bd_verify.specs.inner.Numbers.{IsNumbered}
use Rattle.bd_verify.proofs.numbers.Numbers.variables.Given as goal

abbrev pub invariant-loop-edge : goal.invariant-loop-edge
invariant-loop-edge l = record {
  numbered : IsNumbered l.self;
  rows : AddsRows (take l.edge-index l.edges) l.initial.self.vars l.initial.self.atoms l.self.vars l.self.atoms;
  variables : AreVariables l.self.atoms (take l.edge-index l.edges) l.variables.items;
}
