-- A walk finishes what it comes to, each term after its children, and nothing that the root does not reach.
use Rattle.std.proofs.Common.{◌≡◌, ℕ, zero, suc, ◌<◌, inl, inr, Bool, true, false, ◌==◌, if◌then◌else◌, List, [], ◌∷◌, ◌++◌, length, slice_get, slice_index_or, take, Some, Contains, refl, ap, sym, ◌∙◌, subst, arith, eqb-true}
use Rattle.std.proofs.lemmas.Option.{slice_get_within, slice_get-get_or, none-some, same_Some}
use Rattle.std.proofs.lemmas.List.{take-append-le}
use Rattle.std.proofs.Math.Seq.{take-append_seam}
use Rattle.std.proofs.lemmas.List.Folds.{Any-from_list_any}
use Rattle.std.proofs.lemmas.List.Elements.{Contains-append_cases, Contains-append_left, Contains-append_right}
use Rattle.bd_terms.specs.declared.node.Node.{Node}
use Rattle.bd_terms.specs.declared.node.Node.TheVariants.{True}
use Rattle.bd_terms.specs.Graph.{IsGraph, children}
use Rattle.bd_terms.specs.Reaches.{Reaches, Root, Child}
use Rattle.bd_terms.proofs.Places.{get-push}
use Rattle.bd_terms.proofs.Reaching.{children-below}
use Rattle.bd_walk.specs.Walk.{is_finished, walk, walk_all, walk_at, walks}
use Rattle.bd_walk.proofs.Walking.{walk_at-get}
use Rattle.bd_list.proofs.Membership.{Contains-one}

-- each term of the list stands after its children
pub record IsClosed (nodes : List Node) (finished : List ℕ) : Type 0 where
  pub after : (k id : ℕ) (node : Node) (c : ℕ) → slice_get finished k ≡ Some id → slice_get nodes id ≡ Some node → Contains (children node) c → Contains (take k finished) c

-- what walks from these terms make of those that were finished before
pub record Finishes (nodes : List Node) (ids finished finished' : List ℕ) : Type 0 where
  pub keeps : (x : ℕ) → Contains finished x → Contains finished' x
  pub has : (x : ℕ) → Contains ids x → Contains finished' x
  pub closed : IsClosed nodes finished → IsClosed nodes finished'
  pub reached : (root : ℕ) → ((x : ℕ) → Contains ids x → Reaches nodes root x) → ((x : ℕ) → Contains finished x → Reaches nodes root x) → (x : ℕ) → Contains finished' x → Reaches nodes root x

Finishes-none : (nodes : List Node) (finished : List ℕ) → Finishes nodes [] finished finished
Finishes-none nodes finished = record {
  keeps = λ x p. p;
  has = λ x p. absurd (omega (arith, p.1));
  closed = λ c. c;
  reached = λ root r f. f;
}

Finishes-all : (nodes : List Node) (ids : List ℕ) → ((c : ℕ) → Contains ids c → (f : List ℕ) → Finishes nodes (c ∷ []) f (walk_at (walks nodes) c f))
    → (finished : List ℕ) → Finishes nodes ids finished (walk_all (walks nodes) ids finished)
Finishes-all nodes [] each finished = Finishes-none nodes finished
Finishes-all nodes (id ∷ ids) each finished =
    let first = each id (0, omega arith, refl) finished in
    let rest = Finishes-all nodes ids (λ c p. each c (Contains-append_right (id ∷ []) ids c p)) (walk_at (walks nodes) id finished) in
    record {
      keeps = λ x p. rest.keeps x (first.keeps x p);
      has = λ x p. elim (Contains-append_cases (id ∷ []) ids x p) [
        | inl q ↦ rest.keeps x (first.has x q)
        | inr q ↦ rest.has x q
      ];
      closed = λ c. rest.closed (first.closed c);
      reached = λ root r f.
          rest.reached root (λ x p. r x (Contains-append_right (id ∷ []) ids x p))
          (first.reached root (λ x p. r x (Contains-append_left (id ∷ []) ids x p)) f);
    }

IsClosed-push : (nodes : List Node) (finished : List ℕ) (id : ℕ) (node : Node) → slice_get nodes id ≡ Some node → ((c : ℕ) → Contains (children node) c → Contains finished c)
    → IsClosed nodes finished → IsClosed nodes (finished ++ id ∷ [])
IsClosed-push nodes finished id node there below closed = record {
  after = λ k x n c at is p. elim (get-push finished id k x at) [
    | inl q ↦
        let inside = slice_get_within finished k x q in
        subst (λ l. Contains l c) (sym (take-append-le k finished (id ∷ []) (omega (arith, inside)))) (closed.after k x n c q is p)
    | inr q ↦
        let same : n ≡ node = same_Some n node (sym is ∙ ap (slice_get nodes) q.1 ∙ there) in
        subst (λ l. Contains l c) (sym (ap (λ m. take m (finished ++ id ∷ [])) q.0 ∙ take-append_seam finished (id ∷ [])))
        (below c (subst (λ (m : Node). Contains (children m) c) same p))
  ];
}

Finishes-finished : (nodes : List Node) (id : ℕ) (finished : List ℕ) → is_finished finished id ≡ true → Finishes nodes (id ∷ []) finished finished
Finishes-finished nodes id finished is = record {
  keeps = λ x p. p;
  has = λ x p.
      let a = Any-from_list_any (λ y. y == id) finished is in
      subst (Contains finished) (eqb-true a.1 id a.4 ∙ Contains-one id x p) (a.0, a.2, a.3);
  closed = λ c. c;
  reached = λ root r f. f;
}

Finishes-push : (nodes : List Node) (id : ℕ) (node : Node) (finished mid : List ℕ) → slice_get nodes id ≡ Some node → Finishes nodes (children node) finished mid → Finishes nodes (id ∷ []) finished (mid ++ id ∷ [])
Finishes-push nodes id node finished mid there below = record {
  keeps = λ x p. Contains-append_left mid (id ∷ []) x (below.keeps x p);
  has = λ x p. Contains-append_right mid (id ∷ []) x p;
  closed = λ c. IsClosed-push nodes mid id node there below.has (below.closed c);
  reached = λ root r f x p. elim (Contains-append_cases mid (id ∷ []) x p) [
    | inl q ↦ below.reached root (λ c k. Child id node c (r id (0, omega arith, refl)) there k) f x q
    | inr q ↦ r x q
  ];
}

either : (nodes : List Node) (id : ℕ) (finished next : List ℕ) (t : Bool) → is_finished finished id ≡ t → Finishes nodes (id ∷ []) finished next → Finishes nodes (id ∷ []) finished (if t then finished else next)
either nodes id finished next true is h = Finishes-finished nodes id finished is
either nodes id finished next false is h = h

walk-finishes : (nodes : List Node) → IsGraph nodes → (n id : ℕ) → id < n → id < length nodes → (finished : List ℕ) → Finishes nodes (id ∷ []) finished (walk_at (walks nodes) id finished)
walk-finishes nodes g zero id lt inside finished = absurd (omega arith)
walk-finishes nodes g (suc n) id lt inside finished =
    let node = slice_index_or nodes id True in
    let there : slice_get nodes id ≡ Some node = slice_get-get_or nodes id True inside in
    let below = Finishes-all nodes (children node)
    (λ c p f. let lower = children-below nodes g id node there c p in walk-finishes nodes g n c (omega (arith, lower, lt)) (omega (arith, lower, inside)) f) finished in
    subst (Finishes nodes (id ∷ []) finished) (sym (walk_at-get nodes g id node there finished))
    (either nodes id finished (walk_all (walks nodes) (children node) finished ++ id ∷ []) (is_finished finished id) refl
    (Finishes-push nodes id node finished (walk_all (walks nodes) (children node) finished) there below))

whole : (nodes : List Node) → IsGraph nodes → (root : ℕ) → root < length nodes → Finishes nodes (root ∷ []) [] (walk nodes root)
whole nodes g root inside = walk-finishes nodes g (suc root) root (omega arith) inside []

-- each term stands after its children
pub walk-closed : (nodes : List Node) → IsGraph nodes → (root : ℕ) → root < length nodes → IsClosed nodes (walk nodes root)
walk-closed nodes g root inside = (whole nodes g root inside).closed (record { after = λ k id node c at is p. absurd (none-some id at) })

-- the root is among them
pub walk-root : (nodes : List Node) → IsGraph nodes → (root : ℕ) → root < length nodes → Contains (walk nodes root) root
walk-root nodes g root inside = (whole nodes g root inside).has root (0, omega arith, refl)

-- and the root reaches them
pub walk-reached : (nodes : List Node) → IsGraph nodes → (root : ℕ) → root < length nodes → (id : ℕ) → Contains (walk nodes root) id → Reaches nodes root id
walk-reached nodes g root inside id p =
    (whole nodes g root inside).reached root (λ x q. subst (Reaches nodes root) (Contains-one root x q) Root) (λ x q. absurd (omega (arith, q.1))) id p
