use Rattle.std.proofs.Common.{◌≡◌, drop}
use Rattle.std.specs.Prelude.{◌||◌}
use Rattle.std.specs.List.{list_any}
use Rattle.bd_terms.specs.declared.node.Sym.{Sym}
use Rattle.bd_about.specs.Equations.{is_between}
use Rattle.bd_about.specs.inner.Owned.{is_owned}
use Rattle.bd_about.specs.inner.Paired.{has_pair}
use Rattle.bd_about.proofs.compared.Compared.of.Given as goal

abbrev pub invariant-loop-edge : goal.invariant-loop-edge
invariant-loop-edge l =
    (one other : Sym) → (has_pair l.pairs one other || list_any (is_between (is_owned l.owners) one other) (drop l.edge-index l.edges)) ≡ list_any (is_between (is_owned l.owners) one other) l.edges
