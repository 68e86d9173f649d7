-- What stays where a graph grows within a design: the design's symbols, and the terms with their sorts and denotations.
use Rattle.std.proofs.Common.{◌≡◌, ℕ, inl, inr, List, [], ◌∷◌, map, Contains, refl, ap, ◌∙◌, arith}
use Rattle.std.specs.List.{AllZip}
use Rattle.std.proofs.lemmas.List.Elements.{Contains-append_cases}
use Rattle.bd_model.specs.DesignView.{DesignView}
use Rattle.bd_model.specs.Value.{Env}
use Rattle.bd_terms.specs.declared.node.Node.{Node}
use Rattle.bd_terms.specs.Graph.{AddsUses, Extends, Use, sort_at, uses}
use Rattle.bd_terms.specs.Denotation.{World, Denoted, denoted}
use Rattle.bd_terms.proofs.Growth.{Extends-self, Extends-trans, inside-Extends, sort_at-Extends, denoted-Extends, KeepsSymbol-empty}
use Rattle.bd_symbolic.specs.DesignSymbols.{IsDeclared, KeepsDesign, GrowsWithin}
use Rattle.bd_symbolic.specs.Symbolic.{Terms, AreInside, AreTerms, DenoteEnv, context_in}

pub Grows-self : (d : DesignView) (nodes : List Node) → GrowsWithin d nodes nodes
Grows-self d nodes = record { extends = Extends-self nodes; within = λ u p. inl p }

pub Grows-trans : (d : DesignView) (a b c : List Node) → GrowsWithin d a b → GrowsWithin d b c → GrowsWithin d a c
Grows-trans d a b c p q = record {
  extends = Extends-trans a b c p.extends q.extends;
  within = λ u h. elim (q.within u h) [ inl k ↦ p.within u k | inr k ↦ inr k ];
}

-- terms that apply a symbol of the design, or none
pub Grows-by : (d : DesignView) (old new : List Node) (more : List Use) → Extends old new → AddsUses old new more → ((u : Use) → Contains more u → IsDeclared d u) → GrowsWithin d old new
Grows-by d old new more e a h = record {
  extends = e;
  within = λ u p. elim (Contains-append_cases (uses old) more u (a.within u p)) [ inl k ↦ inl k | inr k ↦ inr (h u k) ];
}

pub Grows-none : (d : DesignView) (old new : List Node) → Extends old new → AddsUses old new [] → GrowsWithin d old new
Grows-none d old new e a = Grows-by d old new [] e a (λ u p. absurd (omega (arith, p.1)))

pub KeepsDesign-Grows : (d : DesignView) (old new : List Node) → GrowsWithin d old new → KeepsDesign d old → KeepsDesign d new
KeepsDesign-Grows d old new g k = record {
  keeps = λ u is. record {
    keeps = λ v p e. elim (g.within v p) [
      | inl q ↦ (k.keeps u is).keeps v q e
      | inr q ↦ let same : v ≡ u = same_declared d u v is q e in (ap (λ (x : Use). x.arity) same, ap (λ (x : Use). x.sort) same)
    ];
  };
} where
  same_declared : (d : DesignView) (u v : Use) → IsDeclared d u → IsDeclared d v → v.symbol ≡ u.symbol → v ≡ u
  same_declared d u v p q e = cc

-- a graph of no term keeps every symbol
pub KeepsDesign-none : (d : DesignView) → KeepsDesign d []
KeepsDesign-none d = record { keeps = λ u is. KeepsSymbol-empty u.symbol u.arity u.sort }

pub AreInside-Extends : (old new : List Node) → Extends old new → (ids : List ℕ) → AreInside old ids → AreInside new ids
AreInside-Extends old new e [] h = tt
AreInside-Extends old new e (id ∷ ids) h = (inside-Extends old new e id h.0, AreInside-Extends old new e ids h.1)

pub AreTerms-Grows : (t : Terms) (old new : List Node) → GrowsWithin t.design old new → AreTerms old t → AreTerms new t
AreTerms-Grows t old new g h = record {
  keeps = KeepsDesign-Grows t.design old new g h.keeps;
  entries = AreInside-Extends old new g.extends t.entries h.entries;
  inputs = AreInside-Extends old new g.extends t.inputs h.inputs;
  lets = AreInside-Extends old new g.extends t.lets h.lets;
}

pub sorts-Extends : (old new : List Node) → Extends old new → (ids : List ℕ) → AreInside old ids → map (sort_at new) ids ≡ map (sort_at old) ids
sorts-Extends old new e [] h = refl
sorts-Extends old new e (id ∷ ids) h = cc (sort_at-Extends old new e id h.0, sorts-Extends old new e ids h.1)

-- the terms keep their sorts
pub context_in-Grows : (t : Terms) (old new : List Node) → GrowsWithin t.design old new → AreTerms old t → context_in new t ≡ context_in old t
context_in-Grows t old new g h = cc (sorts-Extends old new g.extends t.entries h.entries, sorts-Extends old new g.extends t.inputs h.inputs, sorts-Extends old new g.extends t.lets h.lets)

-- and what they denote
pub Denote-Extends : {V : Type 0} (f : V → Denoted) (w : World) (old new : List Node) → Extends old new → (ids : List ℕ) (values : List V) → AreInside old ids → AllZip (λ id v. denoted w old id ≡ f v) ids values → AllZip (λ id v. denoted w new id ≡ f v) ids values
Denote-Extends f w old new e [] [] h k = tt
Denote-Extends f w old new e [] (v ∷ values) h k = absurd k
Denote-Extends f w old new e (id ∷ ids) [] h k = absurd k
Denote-Extends f w old new e (id ∷ ids) (v ∷ values) h k = (denoted-Extends w old new e id h.0 ∙ k.0, Denote-Extends f w old new e ids values h.1 k.1)

pub DenoteEnv-Grows : (w : World) (t : Terms) (env : Env) (old new : List Node) → GrowsWithin t.design old new → AreTerms old t → DenoteEnv w old t env → DenoteEnv w new t env
DenoteEnv-Grows w t env old new g h k = record {
  world = k.world;
  state = Denote-Extends _ w old new g.extends t.entries env.state h.entries k.state;
  inputs = Denote-Extends _ w old new g.extends t.inputs env.inputs h.inputs k.inputs;
  locals = Denote-Extends _ w old new g.extends t.lets env.locals h.lets k.locals;
}
