-- A graph keeps a symbol's arity and sort where each of its nodes does.
use Rattle.std.proofs.Common.{◌≡◌, ℕ, ◌+◌, inl, inr, List, [], ◌∷◌, ◌++◌, slice_get, take, drop, Some, Contains, refl, ap, sym, ◌∙◌, subst, arith}
use Rattle.std.specs.List.{AllByRecursion}
use Rattle.std.proofs.lemmas.Grind.{flat_map-append}
use Rattle.std.proofs.lemmas.List.Elements.{Contains-append_cases, Contains-append_left, Contains-append_right, All-contains, All-from_recursion}
use Rattle.bd_model.specs.declared.design.Sort.{Sort}
use Rattle.bd_terms.specs.declared.node.Sym.{Sym}
use Rattle.bd_terms.specs.declared.node.Node.{Node}
use Rattle.bd_terms.specs.Graph.{KeepsSymbol, Use, node_uses, uses}
use Rattle.bd_terms.specs.inner.Kept.{NodeKeepsSymbol}
use Rattle.bd_terms.proofs.Places.{around}
use Rattle.bd_terms.proofs.Graphs.{uses-push}

-- what a node of the graph applies the graph applies
pub uses-get : (nodes : List Node) (i : ℕ) (node : Node) → slice_get nodes i ≡ Some node → (u : Use) → Contains (node_uses node) u → Contains (uses nodes) u
uses-get nodes i node h u p =
    subst (λ l. Contains l u) (sym (ap uses (around nodes i node h) ∙ flat_map-append node_uses (take i nodes) (node ∷ drop (i + 1) nodes)))
    (Contains-append_right (uses (take i nodes)) (uses (node ∷ drop (i + 1) nodes)) u (Contains-append_left (node_uses node) (uses (drop (i + 1) nodes)) u p))

each : (P : Use → Type 0) (us : List Use) → ((u : Use) → Contains us u → P u) → AllByRecursion P us
each P [] h = tt
each P (u ∷ us) h = (h u (0, omega arith, refl), each P us (λ v p. h v (Contains-append_right (u ∷ []) us v p)))

pub KeepsSymbol-get : (nodes : List Node) (symbol : Sym) (arity : ℕ) (s : Sort) → KeepsSymbol nodes symbol arity s → (i : ℕ) (node : Node) → slice_get nodes i ≡ Some node → NodeKeepsSymbol node symbol arity s
KeepsSymbol-get nodes symbol arity s k i node h =
    each (λ u. u.symbol ≡ symbol → (u.arity ≡ arity) × (u.sort ≡ s)) (node_uses node) (λ u p. k.keeps u (uses-get nodes i node h u p))

pub KeepsSymbol-push : (nodes : List Node) (symbol : Sym) (arity : ℕ) (s : Sort) (node : Node) → KeepsSymbol nodes symbol arity s → NodeKeepsSymbol node symbol arity s → KeepsSymbol (nodes ++ node ∷ []) symbol arity s
KeepsSymbol-push nodes symbol arity s node k h = record {
  keeps = λ u p.
      elim (Contains-append_cases (uses nodes) (node_uses node) u (subst (λ l. Contains l u) (uses-push nodes node) p)) [
        | inl q ↦ k.keeps u q
        | inr q ↦ All-contains (λ (x : Use). x.symbol ≡ symbol → (x.arity ≡ arity) × (x.sort ≡ s)) (node_uses node) u (All-from_recursion _ (node_uses node) h) q
      ];
}
