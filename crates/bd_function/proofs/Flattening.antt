-- One pass in rising order flattens what the root reaches.
use Rattle.std.proofs.Common.{◌≡◌, ℕ, zero, suc, ◌+◌, ◌<◌, ◌^◌, ◌⊎◌, inl, inr, ◌&&◌, ◌||◌, ◌==◌, not, if◌then◌else◌, false, List, [], ◌∷◌, ◌++◌, length, map, slice_get, Some, Contains, refl, ap, sym, ◌∙◌, subst, arith, length-append}
use Rattle.std.specs.List.{All}
use Rattle.std.proofs.lemmas.Option.{none-some, same_Some}
use Rattle.std.proofs.lemmas.List.{get_or_append_left}
use Rattle.std.proofs.lemmas.List.Elements.{All-cons, All-head, All-nil, All-tail}
use Rattle.std.proofs.Math.Seq.{get_or-append_seam}
use Rattle.bd_model.specs.declared.design.Sort.{Sort}
use Rattle.bd_model.specs.declared.design.Sort.TheVariants as sort
use Rattle.bd_model.specs.declared.table.Scalar.{Scalar}
use Rattle.bd_model.specs.declared.table.Scalar.TheVariants as scalar
use Rattle.bd_terms.specs.declared.node.Sym.{Sym}
use Rattle.bd_terms.specs.declared.node.Sym.TheVariants.{Var}
use Rattle.bd_terms.specs.declared.node.Node.{Node}
use Rattle.bd_terms.specs.declared.node.Node.TheVariants.{True, Not, And, Or, Ite, Eq, App, Pred, Read, Write, Init}
use Rattle.bd_terms.specs.Graph.{FitsSorts, HasSort, IsGraph, Use, children, node_sort, node_uses, sort_at, sorts, uses}
use Rattle.bd_terms.specs.Denotation.{World, Denoted, Truth, Word, applied, at_place, denoted, holds, node_value, truth_of, values, word_of, words}
use Rattle.bd_terms.specs.Reaches.{Reaches, Root, Child, ReachesUse}
use Rattle.bd_terms.proofs.Denotations.{denoted-get}
use Rattle.bd_terms.proofs.Graphs.{FitsSorts-get, sort_at-get}
use Rattle.bd_terms.proofs.Growth.{HasSort-Extends, denoted-Extends}
use Rattle.bd_terms.proofs.Older.{Reaches-below}
use Rattle.bd_terms.proofs.Reaching.{children-below}
use Rattle.bd_terms.proofs.Symbols.{uses-get}
use Rattle.bd_function.specs.declared.flat.FlatRow.{FlatRow}
use Rattle.bd_function.specs.declared.flat.FlatSym.{FlatSym}
use Rattle.bd_function.specs.declared.eliminate.Taken.{Taken}
use Rattle.bd_function.specs.Flat.{AreApplications, Flattens, HasAllApplications, HasSmallVariables, IsChosen, IsFlat, KeepsFirst, ReachesNoMemory, is_variable, under}
use Rattle.bd_terms.specs.Renamed.{id_at, renamed}
use Rattle.bd_function.specs.inner.Taken.{AreAlike, HasRow, HasUse, IsApplied, IsPlain, KeepsRow, IsTaken, row_sort, use_of}
use Rattle.bd_function.proofs.Applying.{Contains-later}
use Rattle.bd_function.proofs.Rows.{same-number}
use Rattle.bd_terms.proofs.Places.{All-of}
use Rattle.bd_function.proofs.Taking.{StepsNode}
use Rattle.bd_list.proofs.Membership.{first, second, third, Contains-none, Contains-one}
use Rattle.bd_list.proofs.Numbers.{below_last}

-- a row is that of a symbol that the root reaches, with its arity and sort
pub record IsKnown (old : List Node) (root : ℕ) (t : Taken) (symbol : Sym) (r : FlatRow) : Type 0 where
  pub applied : Use
  pub reached : ReachesUse old root applied
  pub same : applied.symbol ≡ symbol
  pub arity : length r.args ≡ applied.arity
  pub sorted : row_sort t.graph t.variables.items r ≡ applied.sort

-- the terms that the root reaches have been taken as far as there are Ids
pub record IsFlattened (old : List Node) (root : ℕ) (ids : List ℕ) (t : Taken) : Type 0 where
  pub taken : IsTaken t
  pub known : (symbol : Sym) (r : FlatRow) → HasRow t.rows.items symbol r → IsKnown old root t symbol r
  pub all : (k : ℕ) → k < length ids → Reaches old root k → (node : Node) → slice_get old k ≡ Some node → (u : Use) → Contains (node_uses node) u → HasUse t u
  pub chosen : (w : World) (choice : ℕ → Scalar) → IsChosen old root t.graph t.rows.items w choice
  pub sorted : (k : ℕ) → k < length ids → Reaches old root k → HasSort t.graph (id_at ids k) (sort_at old k)
  pub means : (w : World) (v : ℕ → Scalar) → KeepsFirst w v t.graph t.rows.items → (k : ℕ) → k < length ids → Reaches old root k
      → denoted (under v) t.graph (id_at ids k) ≡ denoted w old k

sorted_as : (new : List Node) (id : ℕ) (old : List Node) (a : ℕ) (s : Sort) → HasSort old a s → HasSort new id (sort_at old a) → HasSort new id s
sorted_as new id old a s h k = subst (HasSort new id) h.sorted k

words_renamed : (old new : List Node) (ids args : List ℕ) → All (λ a. HasSort old a sort.Word) args → ((c : ℕ) → Contains args c → HasSort new (id_at ids c) (sort_at old c))
    → All (λ a. HasSort new a sort.Word) (map (id_at ids) args)
words_renamed old new ids [] h k = All-nil (λ a. HasSort new a sort.Word)
words_renamed old new ids (a ∷ args) h k =
    All-cons (λ a. HasSort new a sort.Word) (id_at ids a) (map (id_at ids) args)
    (sorted_as new (id_at ids a) old a sort.Word (All-head (λ a. HasSort old a sort.Word) a args h) (k a (first a args)))
    (words_renamed old new ids args (All-tail (λ a. HasSort old a sort.Word) a args h) (λ c p. k c (Contains-later a args c p)))

-- a node fits over the Ids of its children
pub fits_renamed : (old new : List Node) (ids : List ℕ) (node : Node) → FitsSorts old node → ((c : ℕ) → Contains (children node) c → HasSort new (id_at ids c) (sort_at old c))
    → FitsSorts new (renamed ids node)
fits_renamed old new ids True h k = tt
fits_renamed old new ids (Not a) h k = sorted_as new _ old a _ h (k a (first a []))
fits_renamed old new ids (And a b) h k = (sorted_as new _ old a _ h.0 (k a (first a (b ∷ []))), sorted_as new _ old b _ h.1 (k b (second a b [])))
fits_renamed old new ids (Or a b) h k = (sorted_as new _ old a _ h.0 (k a (first a (b ∷ []))), sorted_as new _ old b _ h.1 (k b (second a b [])))
fits_renamed old new ids (Ite c a b) h k =
    let same = (k a (second c a (b ∷ []))).sorted in (
      sorted_as new _ old c _ h.0 (k c (first c (a ∷ b ∷ []))),
      subst (HasSort new (id_at ids a)) (sym same) (k a (second c a (b ∷ []))),
      subst (HasSort new (id_at ids b)) (h.2.sorted ∙ sym same) (k b (third c a b [])),
    )
fits_renamed old new ids (Eq a b) h k = (sorted_as new _ old a _ h.0 (k a (first a (b ∷ []))), sorted_as new _ old b _ h.1 (k b (second a b [])))
fits_renamed old new ids (App s args) h k = words_renamed old new ids args h k
fits_renamed old new ids (Pred s args) h k = words_renamed old new ids args h k
fits_renamed old new ids (Read m a) h k = (sorted_as new _ old m _ h.0 (k m (first m (a ∷ []))), sorted_as new _ old a _ h.1 (k a (second m a [])))
fits_renamed old new ids (Write m a d) h k = (sorted_as new _ old m _ h.0 (k m (first m (a ∷ d ∷ []))), sorted_as new _ old a _ h.1 (k a (second m a (d ∷ []))), sorted_as new _ old d _ h.2 (k d (third m a d [])))
fits_renamed old new ids (Init e) h k = tt

-- and has the node's sort
sort_renamed : (old new : List Node) (ids : List ℕ) (node : Node) → ((c : ℕ) → Contains (children node) c → HasSort new (id_at ids c) (sort_at old c))
    → node_sort (sorts new) (renamed ids node) ≡ node_sort (sorts old) node
sort_renamed old new ids True k = refl
sort_renamed old new ids (Not a) k = refl
sort_renamed old new ids (And a b) k = refl
sort_renamed old new ids (Or a b) k = refl
sort_renamed old new ids (Ite c a b) k = (k a (second c a (b ∷ []))).sorted
sort_renamed old new ids (Eq a b) k = refl
sort_renamed old new ids (App s args) k = refl
sort_renamed old new ids (Pred s args) k = refl
sort_renamed old new ids (Read m a) k = refl
sort_renamed old new ids (Write m a d) k = refl
sort_renamed old new ids (Init e) k = refl

args_renamed : (xs ys : List Denoted) (ids args : List ℕ) → ((c : ℕ) → Contains args c → at_place xs (id_at ids c) ≡ at_place ys c)
    → map (λ a. word_of (at_place xs a)) (map (id_at ids) args) ≡ map (λ a. word_of (at_place ys a)) args
args_renamed xs ys ids [] h = refl
args_renamed xs ys ids (a ∷ args) h =
    let head = h a (first a args) in
    let tail = args_renamed xs ys ids args (λ c p. h c (Contains-later a args c p)) in
    λ i. word_of (head i) ∷ tail i

-- and denotes what the node does
value_renamed : (w : World) (xs ys : List Denoted) (ids : List ℕ) (node : Node) → IsPlain node → ((c : ℕ) → Contains (children node) c → at_place xs (id_at ids c) ≡ at_place ys c)
    → node_value w xs (renamed ids node) ≡ node_value w ys node
value_renamed w xs ys ids True p h = refl
value_renamed w xs ys ids (Not a) p h = let x = h a (first a []) in λ i. Truth (not (truth_of (x i)))
value_renamed w xs ys ids (And a b) p h = let x = h a (first a (b ∷ [])) in let y = h b (second a b []) in λ i. Truth (truth_of (x i) && truth_of (y i))
value_renamed w xs ys ids (Or a b) p h = let x = h a (first a (b ∷ [])) in let y = h b (second a b []) in λ i. Truth (truth_of (x i) || truth_of (y i))
value_renamed w xs ys ids (Ite c a b) p h =
    let z = h c (first c (a ∷ b ∷ [])) in let x = h a (second c a (b ∷ [])) in let y = h b (third c a b []) in λ i. if truth_of (z i) then x i else y i
value_renamed w xs ys ids (Eq a b) p h = let x = h a (first a (b ∷ [])) in let y = h b (second a b []) in λ i. Truth (word_of (x i) == word_of (y i))
value_renamed w xs ys ids (App s args) p h = ap (λ l. Word (applied w s l)) (args_renamed xs ys ids args h)
value_renamed w xs ys ids (Pred s args) p h = ap (λ l. Truth (holds w s l)) (args_renamed xs ys ids args h)
value_renamed w xs ys ids (Read m a) p h = absurd p
value_renamed w xs ys ids (Write m a d) p h = absurd p
value_renamed w xs ys ids (Init e) p h = absurd p

-- a node that a root reaches that reaches no memory is of none
pub plain_reached : (old : List Node) → IsGraph old → (root : ℕ) → ReachesNoMemory old root → (i : ℕ) (node : Node) → Reaches old root i → slice_get old i ≡ Some node → IsPlain node
plain_reached old g root none i True r at = tt
plain_reached old g root none i (Not a) r at = tt
plain_reached old g root none i (And a b) r at = tt
plain_reached old g root none i (Or a b) r at = tt
plain_reached old g root none i (Ite c a b) r at = tt
plain_reached old g root none i (Eq a b) r at = tt
plain_reached old g root none i (App s args) r at = tt
plain_reached old g root none i (Pred s args) r at = tt
plain_reached old g root none i (Read m a) r at = none.none m (Child i (Read m a) m r at (first m (a ∷ []))) (FitsSorts-get old g i (Read m a) at).0.sorted
plain_reached old g root none i (Write m a d) r at = none.none i r (sort_at-get old g i (Write m a d) at)
plain_reached old g root none i (Init e) r at = none.none i r (sort_at-get old g i (Init e) at)

-- what the node stands over has been taken
pub children_taken : (old : List Node) → IsGraph old → (root : ℕ) (ids : List ℕ) (t : Taken) → IsFlattened old root ids t → (i : ℕ) (node : Node) → i ≡ length ids → Reaches old root i → slice_get old i ≡ Some node
    → (c : ℕ) → Contains (children node) c → HasSort t.graph (id_at ids c) (sort_at old c)
children_taken old g root ids t f i node e r at c p = let below = children-below old g i node at c p in f.sorted c (omega (arith, below, e)) (Child i node c r at p)

pub children_inside : (old : List Node) → IsGraph old → (ids : List ℕ) (i : ℕ) (node : Node) → i ≡ length ids → slice_get old i ≡ Some node → All (λ c. c < length ids) (children node)
children_inside old g ids i node e at = All-of (λ c. c < length ids) (children node) (λ c p. let below = children-below old g i node at c p in omega (arith, below, e))

-- the rows of the symbol that the node applies are alike
pub alike_node : (old : List Node) → IsGraph old → (root : ℕ) (ids : List ℕ) (t : Taken) → IsFlattened old root ids t → (i : ℕ) (node : Node) → slice_get old i ≡ Some node → AreAlike t (node_uses node)
alike_node old g root ids t f i node at = record {
  alike = λ u p x q e r h.
      let k = f.known x.sym r (record { holder = x; listed = q; same = refl; has = h }) in
      let same = (g.consistent k.applied (uses-get old k.reached.id k.reached.node k.reached.there k.applied k.reached.applies)).keeps u (uses-get old i node at u p) (sym (k.same ∙ e)) in
      (k.arity ∙ sym same.0, k.sorted ∙ sym same.1);
}

-- no nodes are a graph
none-IsGraph : IsGraph []
none-IsGraph = record {
  fits = λ i node at. absurd (none-some node at);
  different = λ i j node at there. absurd (none-some node at);
  consistent = λ u p. absurd (Contains-none u p);
}

pub IsFlattened-start : (old : List Node) (root : ℕ) (t : Taken) → t.graph ≡ [] → t.rows.items ≡ [] → t.symbols.keys ≡ [] → IsFlattened old root [] t
IsFlattened-start old root t g r s = record {
  taken = record {
    graph = subst IsGraph (sym g) none-IsGraph;
    rows = λ x p. absurd (Contains-none x (subst (λ l. Contains l x) r p));
    applied = λ u p. absurd (Contains-none u (subst (λ l. Contains (uses l) u) g p));
    named = ap (map (λ (x : FlatSym). x.sym)) r ∙ sym s;
    once = λ i j x h l. absurd (none-some x (subst (λ ks. slice_get ks i ≡ Some x) s h));
    different = λ x y p q h l e. absurd (Contains-none h.holder (subst (λ rs. Contains rs h.holder) r h.listed));
  };
  known = λ symbol x h. absurd (Contains-none h.holder (subst (λ l. Contains l h.holder) r h.listed));
  all = λ k h. absurd (omega (arith, h));
  chosen = λ w choice. record {
    values = choice;
    keeps = record { first = λ x p. absurd (Contains-none x (subst (λ l. Contains l x) r p)) };
    each = λ x. inl refl;
  };
  sorted = λ k h. absurd (omega (arith, h));
  means = λ w v keeps k h. absurd (omega (arith, h));
}

-- a node that isn't reached is passed
pub IsFlattened-pass : (old : List Node) (root : ℕ) (ids : List ℕ) (t : Taken) (id : ℕ) → IsFlattened old root ids t → (Reaches old root (length ids) → ⊥) → IsFlattened old root (ids ++ id ∷ []) t
IsFlattened-pass old root ids t id f none = record {
  taken = f.taken;
  known = f.known;
  all = λ k h r. elim (below_last k (length ids) (omega (arith, h, length-append ids (id ∷ [])))) [
    | inl p ↦ f.all k p r
    | inr e ↦ absurd (none (subst (Reaches old root) e r))
  ];
  chosen = f.chosen;
  sorted = λ k h r. elim (below_last k (length ids) (omega (arith, h, length-append ids (id ∷ [])))) [
    | inl p ↦ subst (λ j. HasSort t.graph j (sort_at old k)) (sym (get_or_append_left ids (id ∷ []) 0 k p)) (f.sorted k p r)
    | inr e ↦ absurd (none (subst (Reaches old root) e r))
  ];
  means = λ w v keeps k h r. elim (below_last k (length ids) (omega (arith, h, length-append ids (id ∷ [])))) [
    | inl p ↦ ap (denoted (under v) t.graph) (get_or_append_left ids (id ∷ []) 0 k p) ∙ f.means w v keeps k p r
    | inr e ↦ absurd (none (subst (Reaches old root) e r))
  ];
}

-- a node that is reached applies its symbol to terms with the values that their new ones have
applied_node : (old : List Node) (root : ℕ) (new : List Node) (ids : List ℕ) (w : World) (v : ℕ → Scalar) (i : ℕ) (node : Node) → IsPlain node → Reaches old root i → slice_get old i ≡ Some node
    → ((c : ℕ) → Contains (children node) c → denoted (under v) new (id_at ids c) ≡ denoted w old c)
    → (u : Use) → Contains (node_uses node) u → IsApplied old root w u (words (under v) new (children (renamed ids node)))
applied_node old root new ids w v i True p r at h u q = absurd (Contains-none u q)
applied_node old root new ids w v i (Not a) p r at h u q = absurd (Contains-none u q)
applied_node old root new ids w v i (And a b) p r at h u q = absurd (Contains-none u q)
applied_node old root new ids w v i (Or a b) p r at h u q = absurd (Contains-none u q)
applied_node old root new ids w v i (Ite c a b) p r at h u q = absurd (Contains-none u q)
applied_node old root new ids w v i (Eq a b) p r at h u q = absurd (Contains-none u q)
applied_node old root new ids w v i (App s args) p r at h u q =
    subst (λ x. IsApplied old root w x (words (under v) new (map (id_at ids) args))) (Contains-one _ u q)
    (record { id = i; terms = args; reached = r; there = at; same = args_renamed (values (under v) new) (values w old) ids args h })
applied_node old root new ids w v i (Pred s args) p r at h u q =
    subst (λ x. IsApplied old root w x (words (under v) new (map (id_at ids) args))) (Contains-one _ u q)
    (record { id = i; terms = args; reached = r; there = at; same = args_renamed (values (under v) new) (values w old) ids args h })
applied_node old root new ids w v i (Read m a) p r at h u q = absurd p
applied_node old root new ids w v i (Write m a d) p r at h u q = absurd p
applied_node old root new ids w v i (Init e) p r at h u q = absurd p

-- a use keeps its row
HasUse-kept : (t t' : Taken) (u : Use) → HasUse t u → ((r : FlatRow) → HasRow t.rows.items u.symbol r → KeepsRow t t' u.symbol r) → HasUse t' u
HasUse-kept t t' u h kept = let k = kept h.row h.has in record { row = h.row; has = k.has; arity = h.arity; sorted = k.sorted ∙ h.sorted }

-- a node that is reached is taken
pub IsFlattened-take : (old : List Node) → IsGraph old → (root : ℕ) → ReachesNoMemory old root → (ids : List ℕ) (t t' : Taken) (id : ℕ) (node : Node) → IsFlattened old root ids t
    → Reaches old root (length ids) → slice_get old (length ids) ≡ Some node → StepsNode t t' ids node id → IsFlattened old root (ids ++ id ∷ []) t'
IsFlattened-take old g root none ids t t' id node f r at st =
    let n : ℕ = length ids in
    let kids = children_taken old g root ids t f n node refl r at in
    let seam : id_at (ids ++ id ∷ []) n ≡ id = get_or-append_seam ids id [] 0 in
    record {
      taken = st.taken;
      known = λ symbol x h. elim (st.rows symbol x h).from [
        | inl q ↦ let k = f.known symbol x q.0 in record { applied = k.applied; reached = k.reached; same = k.same; arity = k.arity; sorted = q.1 ∙ k.sorted }
        | inr q ↦ record { applied = q.use_; reached = record { id = n; node = node; reached = r; there = at; applies = q.among }; same = q.same; arity = q.arity; sorted = q.sorted }
      ];
      all = λ k h s m there u p. elim (below_last k n (omega (arith, h, length-append ids (id ∷ [])))) [
        | inl q ↦ HasUse-kept t t' u (f.all k q s m there u p) (st.kept u.symbol)
        | inr e ↦ st.all u (subst (λ x. Contains (node_uses x) u) (same_Some m node (sym there ∙ ap (slice_get old) e ∙ at)) p)
      ];
      chosen = λ w choice.
          let c = f.chosen w choice in
          st.chosen old root w choice c.values (record { keeps = c.keeps; each = c.each })
          (applied_node old root t.graph ids w c.values n node (plain_reached old g root none n node r at) r at
          (λ a p. let below = children-below old g n node at a p in f.means w c.values c.keeps a below (Child n node a r at p)));
      sorted = λ k h s. elim (below_last k n (omega (arith, h, length-append ids (id ∷ [])))) [
        | inl p ↦ subst (λ j. HasSort t'.graph j (sort_at old k)) (sym (get_or_append_left ids (id ∷ []) 0 k p)) (HasSort-Extends t.graph t'.graph st.extends (id_at ids k) (sort_at old k) (f.sorted k p s))
        | inr e ↦ subst (λ j. HasSort t'.graph (id_at (ids ++ id ∷ []) j) (sort_at old j)) (sym e)
            (subst (λ j. HasSort t'.graph j (sort_at old n)) (sym seam)
            (subst (HasSort t'.graph id) (sort_renamed old t.graph ids node kids ∙ sym (sort_at-get old g n node at)) st.sorted))
      ];
      means = λ w v keeps k h s.
          let before = f.means w v (st.first w v keeps) in
          elim (below_last k n (omega (arith, h, length-append ids (id ∷ [])))) [
            | inl p ↦ ap (denoted (under v) t'.graph) (get_or_append_left ids (id ∷ []) 0 k p) ∙ denoted-Extends (under v) t.graph t'.graph st.extends (id_at ids k) (f.sorted k p s).inside ∙ before k p s
            | inr e ↦ subst (λ j. denoted (under v) t'.graph (id_at (ids ++ id ∷ []) j) ≡ denoted w old j) (sym e)
                (ap (denoted (under v) t'.graph) seam ∙ st.means w v keeps
                ∙ value_renamed w (values (under v) t.graph) (values w old) ids node (plain_reached old g root none n node r at)
                (λ c p. let below = children-below old g n node at c p in before c below (Child n node c r at p))
                ∙ sym (denoted-get w old g n node at))
          ];
    }

-- in the end the root is flattened
pub IsFlattened-Flattens : (old : List Node) (root : ℕ) (ids : List ℕ) (t : Taken) → IsFlattened old root ids t → root < length ids → Flattens old root t.graph (id_at ids root) t.rows.items
IsFlattened-Flattens old root ids t f inside = record { means = λ w v keeps. f.means w v keeps root inside Root }

pub IsFlattened-rows : (old : List Node) (root : ℕ) (ids : List ℕ) (t : Taken) → IsFlattened old root ids t → AreApplications old root t.graph t.rows.items
IsFlattened-rows old root ids t f = record {
  each = λ x p r q.
      let k = f.known x.sym r (record { holder = x; listed = p; same = refl; has = q }) in
      record {
        applied = k.applied;
        reached = k.reached;
        same = k.same;
        arity = k.arity;
        variable = subst (λ s. Contains (uses t.graph) (use_of (Var r.var) 0 s)) k.sorted (f.taken.rows x p r q).applied;
      };
}

-- each use that the root reaches has a row
pub IsFlattened-all : (old : List Node) (root : ℕ) (ids : List ℕ) (t : Taken) → IsGraph old → IsFlattened old root ids t → root < length ids → HasAllApplications old root t.graph t.rows.items
IsFlattened-all old root ids t g f inside = record {
  each = λ u r.
      let below = Reaches-below old g root r.id r.reached in
      let h = f.all r.id (omega (arith, below, inside)) r.reached r.node r.there u r.applies in
      record {
        holder = h.has.holder;
        listed = h.has.listed;
        same = h.has.same;
        row = h.row;
        has = h.has.has;
        arity = h.arity;
        variable = subst (λ s. Contains (uses t.graph) (use_of (Var h.row.var) 0 s)) h.sorted (f.taken.rows h.has.holder h.has.listed h.row h.has.has).applied;
      };
}

get-named : (ss : List FlatSym) (i : ℕ) (x : FlatSym) → slice_get ss i ≡ Some x → slice_get (map (λ (s : FlatSym). s.sym) ss) i ≡ Some x.sym
get-named [] i x h = absurd (none-some x h)
get-named (s ∷ ss) zero x h = ap (λ (z : FlatSym). Some z.sym) (same_Some s x h)
get-named (s ∷ ss) (suc i) x h = get-named ss i x h

pub IsFlattened-small : (old : List Node) (root : ℕ) (ids : List ℕ) (t : Taken) → IsFlattened old root ids t → length t.variables.items < 2 ^ 60 → HasSmallVariables t.graph
IsFlattened-small old root ids t f few = record {
  small = λ x u p e.
      let below = f.taken.applied u p in
      let same : x ≡ below.number = same-number x below.number (sym e ∙ below.same) in
      omega (arith, few, below.below, same);
}

pub IsFlattened-IsFlat : (old : List Node) (root : ℕ) (ids : List ℕ) (t : Taken) → IsFlattened old root ids t → root < length ids → HasSort old root sort.Bool → IsFlat t.graph (id_at ids root) t.rows.items
IsFlattened-IsFlat old root ids t f inside s = record {
  sorted = subst (HasSort t.graph (id_at ids root)) s.sorted (f.sorted root inside Root);
  variables = λ u p. ap is_variable (f.taken.applied u p).same;
  plain = λ u p. (f.taken.applied u p).plain;
  words = λ x p r q. (f.taken.rows x p r q).words;
  once = λ i j x y h l e. f.taken.once i j y.sym
      (subst (λ ks. slice_get ks i ≡ Some y.sym) f.taken.named (get-named t.rows.items i x h ∙ ap Some e))
      (subst (λ ks. slice_get ks j ≡ Some y.sym) f.taken.named (get-named t.rows.items j y l));
  different = λ x y q r p h o l e. f.taken.different x.sym y.sym q r
      (record { holder = x; listed = p; same = refl; has = h }) (record { holder = y; listed = o; same = refl; has = l }) e;
}
