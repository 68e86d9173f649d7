-- What stays where a graph grows by the design's symbols and fresh addresses.
use Rattle.std.proofs.Common.{◌≡◌, ℕ, ◌≤◌, inl, inr, List, [], Contains, None, Some, refl, ap, sym, ◌∙◌, subst, arith}
use Rattle.std.specs.Prelude.{IfOk, Result, Ok, Err}
use Rattle.std.specs.declared.alloc.AllocError.{AllocError}
use Rattle.std.proofs.lemmas.List.Elements.{Contains-append_cases}
use Rattle.bd_model.specs.DesignView.{DesignView}
use Rattle.bd_terms.specs.declared.node.Sym.{Sym}
use Rattle.bd_terms.specs.declared.node.Sym.TheVariants as symbol
use Rattle.bd_terms.specs.declared.node.Node.{Node}
use Rattle.bd_model.specs.declared.design.Sort.TheVariants as sort
use Rattle.bd_terms.specs.Graph.{AddsUses, Extends, Use, uses}
use Rattle.bd_terms.proofs.Growth.{Extends-trans, KeepsSymbol-empty}
use Rattle.bd_terms.proofs.Symbols.{uses-get}
use Rattle.bd_symbolic.proofs.Growing.{KeepsDesign-none}
use Rattle.bd_symbolic.specs.DesignSymbols.{GrowsWithin, IsDeclared, KeepsDesign, declared_use}
use Rattle.bd_goal.specs.Symbols.{GrowsKnown, IsKnown, KeepsAddresses, ReachesKnown}

pub Known-trans : (d : DesignView) (n : ℕ) (a b c : List Node) → GrowsKnown d n a b → GrowsKnown d n b c → GrowsKnown d n a c
Known-trans d n a b c p q = record {
  extends = Extends-trans a b c p.extends q.extends;
  within = λ u h. elim (q.within u h) [ inl k ↦ p.within u k | inr k ↦ inr k ];
}

-- by the design's symbols alone
pub Known-within : (d : DesignView) (n : ℕ) (a b : List Node) → GrowsWithin d a b → GrowsKnown d n a b
Known-within d n a b g = record {
  extends = g.extends;
  within = λ u h. elim (g.within u h) [ inl k ↦ inl k | inr k ↦ inr (inl k) ];
}

pub Known-by : (d : DesignView) (n : ℕ) (a b : List Node) (more : List Use) → ((u : Use) → Contains more u → IsKnown d n u) → Extends a b → AddsUses a b more → GrowsKnown d n a b
Known-by d n a b more known e added = record {
  extends = e;
  within = λ u h. elim (Contains-append_cases (uses a) more u (added.within u h)) [ inl k ↦ inl k | inr k ↦ inr (known u k) ];
}

-- by addresses of which there may be more
pub Known-more : (d : DesignView) (n m : ℕ) (a b : List Node) → n ≤ m → GrowsKnown d n a b → GrowsKnown d m a b
Known-more d n m a b few g = record {
  extends = g.extends;
  within = λ u h. elim (g.within u h) [ inl k ↦ inl k | inr (inl k) ↦ inr (inl k) | inr (inr (i, below, is)) ↦ inr (inr (i, omega (arith, below, few), is)) ];
}

-- by no symbol
pub Known-none : (d : DesignView) (n : ℕ) (a b : List Node) → Extends a b → AddsUses a b [] → GrowsKnown d n a b
Known-none d n a b e added = Known-by d n a b [] (λ u p. absurd (omega (arith, p.1))) e added

declared-same : (d : DesignView) (u v : Use) → IsDeclared d u → IsDeclared d v → v.symbol ≡ u.symbol → v ≡ u
declared-same d u v p q e = cc

none-some : (u : Use) → None ≡ Some u → ⊥
none-some u h = cc

no-address : (d : DesignView) (u : Use) (s : Sym) (i : ℕ) → u.symbol ≡ s → s ≡ symbol.Address i → IsDeclared d u → ⊥
no-address d u s i e f h = none-some u (subst (λ x. declared_use d x ≡ Some u) (e ∙ f) h)

-- the design's symbols and the addresses keep their arity and sort
pub KeepsDesign-Known : (d : DesignView) (n : ℕ) (old new : List Node) → GrowsKnown d n old new → KeepsDesign d old → KeepsDesign d new
KeepsDesign-Known d n old new g k = record {
  keeps = λ u is. record {
    keeps = λ v p e. elim (g.within v p) [
      | inl q ↦ (k.keeps u is).keeps v q e
      | inr (inl q) ↦ let same : v ≡ u = declared-same d u v is q e in (ap (λ (x : Use). x.arity) same, ap (λ (x : Use). x.sort) same)
      | inr (inr (i, below, q)) ↦ absurd (no-address d u v.symbol i (sym e) (ap (λ (x : Use). x.symbol) q) is)
    ];
  };
}

pub KeepsAddresses-Known : (d : DesignView) (n : ℕ) (old new : List Node) → GrowsKnown d n old new → KeepsAddresses old → KeepsAddresses new
KeepsAddresses-Known d n old new g k = record {
  keeps = λ i. record {
    keeps = λ v p e. elim (g.within v p) [
      | inl q ↦ (k.keeps i).keeps v q e
      | inr (inl q) ↦ absurd (no-address d v v.symbol i refl e q)
      | inr (inr (j, below, q)) ↦ (ap (λ (x : Use). x.arity) q, ap (λ (x : Use). x.sort) q)
    ];
  };
}

-- where there is no term, no symbol is applied
pub KeepsDesign-empty : (d : DesignView) (nodes : List Node) → nodes ≡ [] → KeepsDesign d nodes
KeepsDesign-empty d nodes empty = subst (KeepsDesign d) (sym empty) (KeepsDesign-none d)

pub KeepsAddresses-empty : (nodes : List Node) → nodes ≡ [] → KeepsAddresses nodes
KeepsAddresses-empty nodes empty = subst KeepsAddresses (sym empty) (record { keeps = λ i. KeepsSymbol-empty (symbol.Address i) 0 sort.Word })

-- so a root reaches no other symbol where the graph before was empty
pub Reaches-Known : (d : DesignView) (n : ℕ) (old new : List Node) (root : ℕ) → old ≡ [] → GrowsKnown d n old new → ReachesKnown d n new root
Reaches-Known d n old new root empty g =
    let from : GrowsKnown d n [] new = subst (λ nodes. GrowsKnown d n nodes new) empty g in
    record { known = λ u r. elim (from.within u (uses-get new r.id r.node r.there u r.applies)) [ inl p ↦ absurd (omega (arith, p.1)) | inr p ↦ p ] }

-- also where it grew by the design's symbols alone
pub Reaches-within : (d : DesignView) (old new : List Node) (r : Result ℕ AllocError) → old ≡ [] → GrowsWithin d old new → IfOk r (ReachesKnown d 0 new)
Reaches-within d old new (Ok id) empty g = Reaches-Known d 0 old new id empty (Known-within d 0 old new g)
Reaches-within d old new (Err e) empty g = tt
