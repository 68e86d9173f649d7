-- What stays when a graph grows by the calls that build terms.
use Rattle.std.proofs.Common.{◌≡◌, ℕ, ◌<◌, inl, inr, List, [], ◌++◌, length, slice_get, Some, Contains, ap, sym, ◌∙◌, subst, arith, append_assoc, length-append}
use Rattle.std.specs.List.{All}
use Rattle.std.proofs.lemmas.List.{append-nil}
use Rattle.std.proofs.lemmas.List.Elements.{Contains-append_cases, Contains-append_left, Contains-append_right, All-weaker}
use Rattle.bd_model.specs.declared.design.Sort.{Sort}
use Rattle.bd_terms.specs.declared.node.Sym.{Sym}
use Rattle.bd_terms.specs.declared.node.Node.{Node}
use Rattle.bd_terms.specs.Graph.{AddsUses, Extends, HasSort, KeepsSymbol, Use, sort_at, uses}
use Rattle.bd_terms.specs.Denotation.{World, Denoted, Denotes, denoted}
use Rattle.bd_terms.proofs.Places.{get-front}
use Rattle.bd_terms.proofs.Graphs.{HasSort-front, sort_at-front}
use Rattle.bd_terms.proofs.Denotations.{denoted-front}

-- a graph extends itself, and what extends a graph that extends another extends that too
pub Extends-self : (nodes : List Node) → Extends nodes nodes
Extends-self nodes = record { more = []; grows = sym (append-nil nodes) }

pub Extends-trans : (a b c : List Node) → Extends a b → Extends b c → Extends a c
Extends-trans a b c p q = record { more = p.more ++ q.more; grows = q.grows ∙ ap (λ l. l ++ q.more) p.grows ∙ append_assoc a p.more q.more }

-- older Ids stay in the graph
pub inside-Extends : (old new : List Node) → Extends old new → (id : ℕ) → id < length old → id < length new
inside-Extends old new e id h = omega (arith, length-append old e.more, ap length e.grows)

-- older Ids keep their nodes
pub get-Extends : (old new : List Node) → Extends old new → (id : ℕ) (node : Node) → slice_get old id ≡ Some node → slice_get new id ≡ Some node
get-Extends old new e id node h = ap (λ l. slice_get l id) e.grows ∙ get-front old e.more id node h

-- and their sorts
pub sort_at-Extends : (old new : List Node) → Extends old new → (id : ℕ) → id < length old → sort_at new id ≡ sort_at old id
sort_at-Extends old new e id h = ap (λ l. sort_at l id) e.grows ∙ sort_at-front old e.more id h

pub HasSort-Extends : (old new : List Node) → Extends old new → (id : ℕ) (s : Sort) → HasSort old id s → HasSort new id s
HasSort-Extends old new e id s h = subst (λ l. HasSort l id s) (sym e.grows) (HasSort-front old e.more id s h)

pub All-HasSort-Extends : (old new : List Node) → Extends old new → (s : Sort) (ids : List ℕ) → All (λ id. HasSort old id s) ids → All (λ id. HasSort new id s) ids
All-HasSort-Extends old new e s ids h = All-weaker (λ id. HasSort old id s) (λ id. HasSort new id s) (λ id. HasSort-Extends old new e id s) ids h

-- and what they denote
pub denoted-Extends : (w : World) (old new : List Node) → Extends old new → (id : ℕ) → id < length old → denoted w new id ≡ denoted w old id
denoted-Extends w old new e id h = ap (λ l. denoted w l id) e.grows ∙ denoted-front w old e.more id h

pub Denotes-Extends : (old new : List Node) → Extends old new → (id : ℕ) (value : World → Denoted) → id < length old → Denotes old id value → Denotes new id value
Denotes-Extends old new e id value h d = record { is = λ w. denoted-Extends w old new e id h ∙ d.is w }

-- a graph that applies no further symbols, and further ones that are among more
pub AddsUses-self : (nodes : List Node) (more : List Use) → AddsUses nodes nodes more
AddsUses-self nodes more = record { within = λ u p. Contains-append_left (uses nodes) more u p }

pub AddsUses-more : (old new : List Node) (few many : List Use) → ((u : Use) → Contains few u → Contains many u) → AddsUses old new few → AddsUses old new many
AddsUses-more old new few many h a = record {
  within = λ u p. elim (Contains-append_cases (uses old) few u (a.within u p)) [
    | inl q ↦ Contains-append_left (uses old) many u q
    | inr q ↦ Contains-append_right (uses old) many u (h u q)
  ];
}

pub AddsUses-trans : (a b c : List Node) (more : List Use) → AddsUses a b more → AddsUses b c more → AddsUses a c more
AddsUses-trans a b c more p q = record {
  within = λ u h. elim (Contains-append_cases (uses b) more u (q.within u h)) [
    | inl k ↦ p.within u k
    | inr k ↦ Contains-append_right (uses a) more u k
  ];
}

-- no symbol is applied where there is no term
pub KeepsSymbol-empty : (symbol : Sym) (arity : ℕ) (s : Sort) → KeepsSymbol [] symbol arity s
KeepsSymbol-empty symbol arity s = record { keeps = λ u p e. absurd (omega (arith, p.1)) }
