-- What a graph keeps when a node is put after the others.
use Rattle.std.proofs.Common.{◌≡◌, ℕ, ◌+◌, ◌<◌, ◌⊎◌, inl, inr, List, [], ◌∷◌, ◌++◌, length, slice_get, take, drop, Some, Contains, refl, ap, sym, ◌∙◌, subst, arith, length-append}
use Rattle.std.specs.List.{All}
use Rattle.bd_list.proofs.Grown.{grown-push, get-grown_front}
use Rattle.bd_model.specs.declared.design.Sort.{Sort}
use Rattle.bd_model.specs.declared.design.Sort.TheVariants as sort
use Rattle.bd_terms.specs.declared.node.Node.{Node}
use Rattle.bd_terms.specs.declared.node.Node.TheVariants.{True, Not, And, Or, Ite, Eq, App, Pred, Read, Write, Init}
use Rattle.bd_terms.specs.Graph.{node_sort, sorts, sort_at, HasSort, FitsSorts, Use, node_uses, uses, KeepsSymbol, KeepsUses, IsGraph}
use Rattle.bd_terms.specs.inner.Kept.{IsKept}
use Rattle.bd_terms.proofs.Places.{get-push, around, grown-get}
use Rattle.std.proofs.lemmas.Option.{slice_get_within}
use Rattle.std.proofs.lemmas.Grind.{flat_map-append}
use Rattle.std.proofs.lemmas.List.{take-append-le, append-nil}
use Rattle.std.proofs.Math.Seq.{take-append_seam}
use Rattle.std.proofs.lemmas.List.Elements.{Contains-append_cases, All-from_recursion, All-contains, All-weaker}
use Rattle.bd_list.proofs.Membership.{Contains-one}

-- a node's sort stays when the graph grows
pub sort_at-front : (xs ys : List Node) (id : ℕ) → id < length xs → sort_at (xs ++ ys) id ≡ sort_at xs id
sort_at-front xs ys id h = get-grown_front node_sort xs ys id sort.Bool h

pub HasSort-front : (xs ys : List Node) (id : ℕ) (s : Sort) → HasSort xs id s → HasSort (xs ++ ys) id s
HasSort-front xs ys id s h = record { inside = omega (arith, h.inside, length-append xs ys); sorted = sort_at-front xs ys id h.inside ∙ h.sorted }

words-front : (xs ys : List Node) (args : List ℕ) → All (λ a. HasSort xs a sort.Word) args → All (λ a. HasSort (xs ++ ys) a sort.Word) args
words-front xs ys args h = All-weaker (λ a. HasSort xs a sort.Word) (λ a. HasSort (xs ++ ys) a sort.Word) (λ a. HasSort-front xs ys a sort.Word) args h

-- and so it fits
pub FitsSorts-front : (xs ys : List Node) (node : Node) → FitsSorts xs node → FitsSorts (xs ++ ys) node
FitsSorts-front xs ys True h = tt
FitsSorts-front xs ys (Not a) h = HasSort-front xs ys a _ h
FitsSorts-front xs ys (And a b) h = (HasSort-front xs ys a _ h.0, HasSort-front xs ys b _ h.1)
FitsSorts-front xs ys (Or a b) h = (HasSort-front xs ys a _ h.0, HasSort-front xs ys b _ h.1)
FitsSorts-front xs ys (Ite c a b) h =
    let same = sort_at-front xs ys a h.1.inside in (
      HasSort-front xs ys c _ h.0,
      rw same (HasSort-front xs ys a _ h.1),
      rw same (HasSort-front xs ys b _ h.2),
    )
FitsSorts-front xs ys (Eq a b) h = (HasSort-front xs ys a _ h.0, HasSort-front xs ys b _ h.1)
FitsSorts-front xs ys (App s args) h = words-front xs ys args h
FitsSorts-front xs ys (Pred s args) h = words-front xs ys args h
FitsSorts-front xs ys (Read m a) h = (HasSort-front xs ys m _ h.0, HasSort-front xs ys a _ h.1)
FitsSorts-front xs ys (Write m a d) h = (HasSort-front xs ys m _ h.0, HasSort-front xs ys a _ h.1, HasSort-front xs ys d _ h.2)
FitsSorts-front xs ys (Init e) h = tt

-- what a node's sort rests on stays
pub node_sort-front : (xs ys : List Node) (node : Node) → FitsSorts xs node → node_sort (sorts (xs ++ ys)) node ≡ node_sort (sorts xs) node
node_sort-front xs ys True h = refl
node_sort-front xs ys (Not a) h = refl
node_sort-front xs ys (And a b) h = refl
node_sort-front xs ys (Or a b) h = refl
node_sort-front xs ys (Ite c a b) h = sort_at-front xs ys a h.1.inside
node_sort-front xs ys (Eq a b) h = refl
node_sort-front xs ys (App s args) h = refl
node_sort-front xs ys (Pred s args) h = refl
node_sort-front xs ys (Read m a) h = refl
node_sort-front xs ys (Write m a d) h = refl
node_sort-front xs ys (Init e) h = refl

-- each node fits its graph
pub FitsSorts-get : (nodes : List Node) → IsGraph nodes → (i : ℕ) (node : Node) → slice_get nodes i ≡ Some node → FitsSorts nodes node
FitsSorts-get nodes g i node h =
    subst (λ l. FitsSorts l node) (sym (around nodes i node h)) (FitsSorts-front (take i nodes) (node ∷ drop (i + 1) nodes) node (g.fits i node h))

-- the sort at a place is that of the node there
pub sort_at-get : (nodes : List Node) → IsGraph nodes → (i : ℕ) (node : Node) → slice_get nodes i ≡ Some node → sort_at nodes i ≡ node_sort (sorts nodes) node
sort_at-get nodes g i node h =
    grown-get node_sort nodes i node sort.Bool h
    ∙ sym (ap (λ l. node_sort (sorts l) node) (around nodes i node h) ∙ node_sort-front (take i nodes) (node ∷ drop (i + 1) nodes) node (g.fits i node h))

pub sorts-push : (nodes : List Node) (node : Node) → sorts (nodes ++ node ∷ []) ≡ sorts nodes ++ node_sort (sorts nodes) node ∷ []
sorts-push nodes node = grown-push node_sort [] nodes node

-- a node more applies what was applied, and what it applies itself
pub uses-push : (nodes : List Node) (node : Node) → uses (nodes ++ node ∷ []) ≡ uses nodes ++ node_uses node
uses-push nodes node = flat_map-append node_uses nodes (node ∷ []) ∙ ap (λ l. uses nodes ++ l) (append-nil (node_uses node))

-- a node applies one symbol at most
node_uses-one : (node : Node) (u v : Use) → Contains (node_uses node) u → Contains (node_uses node) v → u ≡ v
node_uses-one (App s args) u v p q = sym (Contains-one _ u p) ∙ Contains-one _ v q
node_uses-one (Pred s args) u v p q = sym (Contains-one _ u p) ∙ Contains-one _ v q
node_uses-one (Init e) u v p q = sym (Contains-one _ u p) ∙ Contains-one _ v q
node_uses-one True u v (k, h, e) q = absurd (omega arith)
node_uses-one (Not a) u v (k, h, e) q = absurd (omega arith)
node_uses-one (And a b) u v (k, h, e) q = absurd (omega arith)
node_uses-one (Or a b) u v (k, h, e) q = absurd (omega arith)
node_uses-one (Ite c a b) u v (k, h, e) q = absurd (omega arith)
node_uses-one (Eq a b) u v (k, h, e) q = absurd (omega arith)
node_uses-one (Read m a) u v (k, h, e) q = absurd (omega arith)
node_uses-one (Write m a d) u v (k, h, e) q = absurd (omega arith)

-- two uses of a symbol agree
pub record Agree (u v : Use) : Type 0 where
  pub agree : v.symbol ≡ u.symbol → (v.arity ≡ u.arity) × (v.sort ≡ u.sort)

Agree-push : (nodes : List Node) (node : Node) → IsGraph nodes → KeepsUses nodes node → (u v : Use) → Contains (uses nodes) u ⊎ Contains (node_uses node) u → Contains (uses nodes) v ⊎ Contains (node_uses node) v → Agree u v
Agree-push nodes node g k u v (inl p) (inl q) = record { agree = (g.consistent u p).keeps v q }
Agree-push nodes node g k u v (inl p) (inr q) =
    let kept = All-contains (λ (x : Use). KeepsSymbol nodes x.symbol x.arity x.sort) (node_uses node) v (All-from_recursion _ (node_uses node) k) q in
    record { agree = λ e. let r = kept.keeps u p (sym e) in (sym r.0, sym r.1) }
Agree-push nodes node g k u v (inr p) (inl q) =
    let kept = All-contains (λ (x : Use). KeepsSymbol nodes x.symbol x.arity x.sort) (node_uses node) u (All-from_recursion _ (node_uses node) k) p in
    record { agree = kept.keeps v q }
Agree-push nodes node g k u v (inr p) (inr q) =
    let same = node_uses-one node v u q p in
    record { agree = λ e. (ap (λ x. x.arity) same, ap (λ x. x.sort) same) }

-- a graph stays one when a node is put after the others that fits it, applies its symbol as the graph does, and
-- isn't there
IsGraph-push : (nodes : List Node) (node : Node) → IsGraph nodes → FitsSorts nodes node → KeepsUses nodes node
    → ((i j : ℕ) (n : Node) → slice_get (nodes ++ node ∷ []) i ≡ Some n → slice_get (nodes ++ node ∷ []) j ≡ Some n → i ≡ j)
    → IsGraph (nodes ++ node ∷ [])
IsGraph-push nodes node g fits keeps different = record {
  fits = λ i n h. elim (get-push nodes node i n h) [
    | inl p ↦ let inside : i < length nodes = slice_get_within nodes i n p in
        subst (λ l. FitsSorts l n) (sym (take-append-le i nodes (node ∷ []) (omega arith))) (g.fits i n p)
    | inr p ↦ subst (λ l. FitsSorts l n) (sym (ap (λ k. take k (nodes ++ node ∷ [])) p.0 ∙ take-append_seam nodes (node ∷ []))) (subst (FitsSorts nodes) (sym p.1) fits)
  ];
  different = different;
  consistent = λ u p. record {
    keeps = λ v q. (Agree-push nodes node g keeps u v
        (Contains-append_cases (uses nodes) (node_uses node) u (subst (λ l. Contains l u) (uses-push nodes node) p))
        (Contains-append_cases (uses nodes) (node_uses node) v (subst (λ l. Contains l v) (uses-push nodes node) q))).agree;
  };
}

-- the same of the list that comes out
pub IsGraph-pushed : (nodes : List Node) (node : Node) (nodes' : List Node) → IsGraph nodes → FitsSorts nodes node → KeepsUses nodes node
    → nodes' ≡ nodes ++ node ∷ []
    → ((i j : ℕ) (n : Node) → slice_get nodes' i ≡ Some n → slice_get nodes' j ≡ Some n → i ≡ j)
    → IsGraph nodes'
IsGraph-pushed nodes node nodes' g fits keeps e different =
    subst IsGraph (sym e) (IsGraph-push nodes node g fits keeps
    (subst (λ l. (i j : ℕ) (n : Node) → slice_get l i ≡ Some n → slice_get l j ≡ Some n → i ≡ j) e different))

-- a node after the others, and its sort after theirs
pub IsKept-pushed : (nodes : List Node) (kept : List Sort) (node : Node) (s : Sort) (nodes' : List Node) (kept' : List Sort)
    → IsKept nodes kept → FitsSorts nodes node → KeepsUses nodes node
    → s ≡ node_sort (sorts nodes) node → nodes' ≡ nodes ++ node ∷ [] → kept' ≡ kept ++ s ∷ []
    → ((i j : ℕ) (n : Node) → slice_get nodes' i ≡ Some n → slice_get nodes' j ≡ Some n → i ≡ j)
    → IsKept nodes' kept'
IsKept-pushed nodes kept node s nodes' kept' g fits keeps is_sort e f different = record {
  graph = IsGraph-pushed nodes node nodes' g.graph fits keeps e different;
  sorted = f ∙ ap (λ l. l ++ s ∷ []) g.sorted ∙ ap (λ x. sorts nodes ++ x ∷ []) is_sort ∙ sym (sorts-push nodes node) ∙ ap sorts (sym e);
}
