-- What a graph is after a term is kept.
use Rattle.std.proofs.Common.{◌≡◌, ℕ, ◌⊎◌, inl, inr, List, [], ◌∷◌, ◌++◌, Contains, Result, Ok, Err, IfOk, OnErr, ap, sym, ◌∙◌, subst}
use Rattle.std.specs.List.{AllByRecursion}
use Rattle.std.specs.declared.alloc.AllocError.{AllocError}
use Rattle.std.proofs.lemmas.Option.{slice_get_within}
use Rattle.std.proofs.lemmas.List.{append-nil}
use Rattle.std.proofs.lemmas.List.Elements.{Contains-append_left}
use Rattle.bd_terms.specs.declared.node.Node.{Node}
use Rattle.bd_terms.specs.declared.simplify.Outcome.{Outcome}
use Rattle.bd_terms.specs.declared.simplify.Outcome.TheVariants.{Same, Built}
use Rattle.bd_terms.specs.Graph.{AddsUses, Extends, FitsSorts, HasSort, IsGraph, KeepsSymbol, Use, node_sort, node_uses, sorts, uses}
use Rattle.bd_terms.specs.Graph.{KeepsUses}
use Rattle.bd_terms.specs.Denotation.{World, Denotes, denoted, node_value, values}
use Rattle.bd_terms.specs.Simplified.{Gives, KeptAt, simplified}
use Rattle.bd_terms.proofs.Graphs.{sort_at-get, node_sort-front, uses-push}
use Rattle.bd_terms.proofs.Denotations.{denoted-get, node_value-front}
use Rattle.bd_terms.proofs.Simplifying.{OutcomeFits, outcome_value, simplified-fits, simplified-value}

KeptAt-denoted : (w : World) (old new : List Node) → IsGraph new → (id : ℕ) (n : Node) → FitsSorts old n → KeptAt old new id n → denoted w new id ≡ node_value w (values w old) n
KeptAt-denoted w old new g id n fits h =
    denoted-get w new g id n h.stored ∙ elim h.adds [
      | inl e ↦ ap (λ l. node_value w (values w l) n) e
      | inr e ↦ ap (λ l. node_value w (values w l) n) e ∙ node_value-front w old (n ∷ []) n fits
    ]

KeptAt-sort : (old new : List Node) → IsGraph new → (id : ℕ) (n : Node) → FitsSorts old n → KeptAt old new id n → HasSort new id (node_sort (sorts old) n)
KeptAt-sort old new g id n fits h = record {
  inside = slice_get_within new id n h.stored;
  sorted = sort_at-get new g id n h.stored ∙ elim h.adds [
    | inl e ↦ ap (λ l. node_sort (sorts l) n) e
    | inr e ↦ ap (λ l. node_sort (sorts l) n) e ∙ node_sort-front old (n ∷ []) n fits
  ];
}

Gives-denoted_form : (w : World) (old new : List Node) → IsGraph new → (id : ℕ) (node : Node) (f : Outcome) → OutcomeFits old node f → Gives old new id f → denoted w new id ≡ outcome_value w old f
Gives-denoted_form w old new g id node (Same a) fits h = ap (λ l. denoted w l id) h.0 ∙ ap (denoted w old) h.1
Gives-denoted_form w old new g id node (Built n) fits h = KeptAt-denoted w old new g id n fits.0 h

-- a term that is kept denotes what it says
pub Gives-Denotes : (old new : List Node) → IsGraph old → IsGraph new → (id : ℕ) (node : Node) → FitsSorts old node → Gives old new id (simplified old node)
    → Denotes new id (λ w. node_value w (values w old) node)
Gives-Denotes old new g g' id node fits h = record {
  is = λ w.
      Gives-denoted_form w old new g' id node (simplified old node) (simplified-fits old g node fits) h ∙ simplified-value w old g node fits;
}

Gives-HasSort_form : (old new : List Node) → IsGraph new → (id : ℕ) (node : Node) (f : Outcome) → OutcomeFits old node f → Gives old new id f → HasSort new id (node_sort (sorts old) node)
Gives-HasSort_form old new g id node (Same a) fits h =
    subst (λ l. HasSort l id (node_sort (sorts old) node)) (sym h.0) (subst (λ i. HasSort old i (node_sort (sorts old) node)) (sym h.1) fits)
Gives-HasSort_form old new g id node (Built n) fits h = subst (HasSort new id) fits.1 (KeptAt-sort old new g id n fits.0 h)

-- and has its sort
pub Gives-HasSort : (old new : List Node) → IsGraph old → IsGraph new → (id : ℕ) (node : Node) → FitsSorts old node → Gives old new id (simplified old node)
    → HasSort new id (node_sort (sorts old) node)
Gives-HasSort old new g g' id node fits h = Gives-HasSort_form old new g' id node (simplified old node) (simplified-fits old g node fits) h

-- a graph applies what it applies
pub AddsUses-same : (old new : List Node) (more : List Use) → new ≡ old → AddsUses old new more
AddsUses-same old new more e = record { within = λ u p. Contains-append_left (uses old) more u (subst (λ l. Contains (uses l) u) e p) }

KeptAt-AddsUses : (old new : List Node) (node n : Node) → (n ≡ node) ⊎ (node_uses n ≡ []) → new ≡ old ++ n ∷ [] → AddsUses old new (node_uses node)
KeptAt-AddsUses old new node n (inl same) e = record {
  within = λ u p.
      subst (λ l. Contains l u) (ap uses e ∙ uses-push old n ∙ ap (λ x. uses old ++ node_uses x) same) p;
}
KeptAt-AddsUses old new node n (inr none) e = record {
  within = λ u p.
      Contains-append_left (uses old) (node_uses node) u (subst (λ l. Contains l u) (ap uses e ∙ uses-push old n ∙ ap (λ l. uses old ++ l) none ∙ append-nil (uses old)) p);
}

Gives-AddsUses_form : (old new : List Node) (id : ℕ) (node : Node) (f : Outcome) → OutcomeFits old node f → Gives old new id f → AddsUses old new (node_uses node)
Gives-AddsUses_form old new id node (Same a) fits h = AddsUses-same old new (node_uses node) h.0
Gives-AddsUses_form old new id node (Built n) fits h =
    elim h.adds [ inl e ↦ AddsUses-same old new (node_uses node) e | inr e ↦ KeptAt-AddsUses old new node n fits.2 e ]

-- and applies no more than they and the term
pub Gives-AddsUses : (old new : List Node) → IsGraph old → (id : ℕ) (node : Node) → FitsSorts old node → Gives old new id (simplified old node) → AddsUses old new (node_uses node)
Gives-AddsUses old new g id node fits h = Gives-AddsUses_form old new id node (simplified old node) (simplified-fits old g node fits) h

-- the term that comes out fits
pub simplified-FitsSorts : (old : List Node) → IsGraph old → (node n : Node) → FitsSorts old node → Built n ≡ simplified old node → FitsSorts old n
simplified-FitsSorts old g node n fits e = (subst (OutcomeFits old node) (sym e) (simplified-fits old g node fits)).0

KeepsUses-some : (old : List Node) (node n : Node) → KeepsUses old node → (n ≡ node) ⊎ (node_uses n ≡ []) → KeepsUses old n
KeepsUses-some old node n h (inl e) = subst (KeepsUses old) (sym e) h
KeepsUses-some old node n h (inr e) = subst (λ us. AllByRecursion (λ u. KeepsSymbol old u.symbol u.arity u.sort) us) (sym e) tt

-- and applies its symbol as the graph does
pub simplified-KeepsUses : (old : List Node) → IsGraph old → (node n : Node) → FitsSorts old node → KeepsUses old node → Built n ≡ simplified old node → KeepsUses old n
simplified-KeepsUses old g node n fits keeps e = KeepsUses-some old node n keeps (subst (OutcomeFits old node) (sym e) (simplified-fits old g node fits)).2

-- where the term that comes out is kept, it denotes what the term says
pub kept-Denotes : (old new : List Node) → IsGraph old → IsGraph new → (node : Node) (f : Outcome) → FitsSorts old node → f ≡ simplified old node
    → (r : Result ℕ AllocError) → IfOk r (λ id. Gives old new id f) → IfOk r (λ id. Denotes new id (λ w. node_value w (values w old) node))
kept-Denotes old new g g' node f fits e (Ok id) h = Gives-Denotes old new g g' id node fits (subst (Gives old new id) e h)
kept-Denotes old new g g' node f fits e (Err x) h = tt

-- and has its sort
pub kept-HasSort : (old new : List Node) → IsGraph old → IsGraph new → (node : Node) (f : Outcome) → FitsSorts old node → f ≡ simplified old node
    → (r : Result ℕ AllocError) → IfOk r (λ id. Gives old new id f) → IfOk r (λ id. HasSort new id (node_sort (sorts old) node))
kept-HasSort old new g g' node f fits e (Ok id) h = Gives-HasSort old new g g' id node fits (subst (Gives old new id) e h)
kept-HasSort old new g g' node f fits e (Err x) h = tt

-- the graph stays where no term is kept
pub kept-AddsUses : (old new : List Node) → IsGraph old → (node : Node) (f : Outcome) → FitsSorts old node → f ≡ simplified old node
    → (r : Result ℕ AllocError) → IfOk r (λ id. Gives old new id f) → OnErr r (new ≡ old) → AddsUses old new (node_uses node)
kept-AddsUses old new g node f fits e (Ok id) h k = Gives-AddsUses old new g id node fits (subst (Gives old new id) e h)
kept-AddsUses old new g node f fits e (Err x) h k = AddsUses-same old new (node_uses node) k
