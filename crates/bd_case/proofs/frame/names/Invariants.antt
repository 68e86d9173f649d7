use Rattle.std.proofs.Common.{◌≡◌, List, ◌++◌, ℕ, Bor, map, drop}
use Rattle.bd_model.specs.declared.design.Symbol.{Symbol}
use Rattle.bd_model.specs.declared.design.Entry.{Entry}
use Rattle.bd_model.specs.declared.design.Port.{Port}
use Rattle.bd_case.proofs.frame.names.Given as goal

abbrev pub invariant-loop-symbol : goal.invariant-loop-symbol
invariant-loop-symbol l = map (λ (b : Bor (List ℕ)). b.now) l.names.items ++ map (λ (y : Symbol). y.name) (drop l.symbol-index l.symbol-items) ≡ map (λ (y : Symbol). y.name) l.symbol-items

abbrev pub invariant-loop-entry : goal.invariant-loop-entry
invariant-loop-entry l =
    map (λ (b : Bor (List ℕ)). b.now) l.names.items ++ map (λ (x : Entry). x.name) (drop l.entry-index l.entry-items)
    ≡ map (λ (b : Bor (List ℕ)). b.now) l.initial.names.items ++ map (λ (x : Entry). x.name) l.entry-items

abbrev pub invariant-loop-port : goal.invariant-loop-port
invariant-loop-port l =
    map (λ (b : Bor (List ℕ)). b.now) l.names.items ++ map (λ (p : Port). p.name) (drop l.port-index l.port-items)
    ≡ map (λ (b : Bor (List ℕ)). b.now) l.initial.names.items ++ map (λ (p : Port). p.name) l.port-items
