-- Pairs and edges.
use Rattle.std.proofs.Common.{◌≡◌, ◌≢◌, ◌⊎◌, ◌↔◌, inl, inr, ℕ, zero, suc, ◌<◌, Bool, true, eqb, eqb-true, eq-eqb, List, [], ◌∷◌, AllPairs, Contains, length, map, get_or, refl, sym, ap, ◌∙◌, subst, arith}
use Rattle.std.specs.List.{IsDistinct}
use Rattle.std.proofs.lemmas.Bool.{and_parts, and_from, true≢false}
use Rattle.std.proofs.lemmas.List.Elements.{Contains-append_right}
use Rattle.std.proofs.lemmas.Map.Keys.{apart_from_distinct}
use Rattle.bd_transitive.specs.declared.graph.Edge.{Edge}
use Rattle.bd_equality.specs.contracts.pairs.VariablePairPartialEq.TheImpl.{eq-value}
use Rattle.bd_equality.specs.declared.pairs.VariablePair.{VariablePair}
use Rattle.bd_equality.specs.inner.Sets.{edge_of}
use Rattle.bd_list.proofs.Membership.{Contains-cons, first}

-- the derived `==`
abbrev pub pair_eq : VariablePair → VariablePair → Bool
pair_eq = eq-value.it

abbrev pub pair_of : Edge → VariablePair
pair_of e = record { from = e.from; to = e.to }

abbrev pub pair : ℕ → ℕ → VariablePair
pair x y = record { from = x; to = y }

pub pair_same : (s t : VariablePair) → pair_eq s t ≡ true → s ≡ t
pair_same s t h = let p = and_parts (eqb s.from t.from) (eqb s.to t.to) h in (λ j. pair (eqb-true s.from t.from p.0 j) (eqb-true s.to t.to p.1 j))

pair_itself : (s : VariablePair) → pair_eq s s ≡ true
pair_itself s = and_from (eqb s.from s.from) (eqb s.to s.to) (eq-eqb s.from s.from refl) (eq-eqb s.to s.to refl)

-- the edges of pairs are those of the pairs
pub edge_pair : (ks : List VariablePair) (e : Edge) → Contains (map edge_of ks) e → Contains ks (pair_of e)
edge_pair [] e (k, lt, is) = absurd (omega arith)
edge_pair (x ∷ xs) e h = elim (Contains-cons (edge_of x) (map edge_of xs) e h) [
  | inl q ↦ subst (Contains (x ∷ xs)) (ap pair_of q) (first x xs)
  | inr q ↦ Contains-append_right (x ∷ []) xs (pair_of e) (edge_pair xs e q)
]

pub pair_edge : (ks : List VariablePair) (e : Edge) → Contains ks (pair_of e) → Contains (map edge_of ks) e
pair_edge [] e (k, lt, is) = absurd (omega arith)
pair_edge (x ∷ xs) e h = elim (Contains-cons x xs (pair_of e) h) [
  | inl q ↦ subst (Contains (map edge_of (x ∷ xs))) (ap edge_of q) (first (edge_of x) (map edge_of xs))
  | inr q ↦ Contains-append_right (edge_of x ∷ []) (map edge_of xs) e (pair_edge xs e q)
]

-- a pair more is an edge more
pub edges_with : (old new : List VariablePair) (p : VariablePair) → ((x : VariablePair) → Contains new x ↔ (Contains old x ⊎ (p ≡ x))) → (e : Edge) → Contains (map edge_of new) e ↔ (Contains (map edge_of old) e ⊎ (edge_of p ≡ e))
edges_with old new p h e = (
  λ k. elim ((h (pair_of e)).0 (edge_pair new e k)) [ inl q ↦ inl (pair_edge old e q) | inr q ↦ inr (ap edge_of q) ],
  λ k. pair_edge new e ((h (pair_of e)).1 (elim k [ inl q ↦ inl (edge_pair old e q) | inr q ↦ inr (ap pair_of q) ])),
)

get-map : (ks : List VariablePair) (i : ℕ) (d : Edge) → get_or (map edge_of ks) i d ≡ edge_of (get_or ks i (pair_of d))
get-map [] i d = refl
get-map (x ∷ xs) zero d = refl
get-map (x ∷ xs) (suc i) d = get-map xs i d

count : (ks : List VariablePair) → length (map edge_of ks) ≡ length ks
count [] = refl
count (x ∷ xs) = ap suc (count xs)

-- pairs without repeats are edges without repeats
pub once_of : (ks : List VariablePair) → IsDistinct pair_eq ks → AllPairs (λ e f. e ≢ f) (map edge_of ks)
once_of ks apart i j d lt inside same =
    let within : j < length ks = subst (λ n. j < n) (count ks) inside in
    let equal : get_or ks i (pair_of d) ≡ get_or ks j (pair_of d) = ap pair_of (sym (get-map ks i d) ∙ same ∙ get-map ks j d) in
    let other = apart_from_distinct pair_eq ks i j (pair_of d) apart lt within in
    true≢false (sym (pair_itself (get_or ks j (pair_of d))) ∙ ap (λ x. pair_eq x (get_or ks j (pair_of d))) (sym equal) ∙ other)
