-- Where every term has been met, the world is spread.
use Rattle.std.proofs.Common.{◌≡◌, ◌⊎◌, ◌↔◌, inl, inr, ℕ, zero, suc, ◌+◌, ◌<◌, ◌≤◌, Bool, true, false, if◌then◌else◌, List, [], ◌∷◌, length, map, slice_get, slice_index_or, Option, Some, None, Contains, refl, ap, sym, ◌∙◌, subst, arith, true≢false}
use Rattle.std.proofs.lemmas.Option.{none-some, same_Some, slice_get-get_or, slice_get_within}
use Rattle.std.proofs.lemmas.List.Elements.{Contains-append_right}
use Rattle.std.specs.List.{list_any}
use Rattle.indexmap.proofs.CallerLemmas.{Contains-list_any}
use Rattle.bd_model.specs.declared.design.Sort.{Sort}
use Rattle.bd_model.specs.declared.design.Sort.TheVariants as sort
use Rattle.bd_model.specs.declared.table.Scalar.{Scalar}
use Rattle.bd_model.specs.declared.table.Scalar.TheVariants as scalar
use Rattle.bd_model.specs.Table.{at, row_value}
use Rattle.bd_model.specs.Value.{scalar_truth, scalar_word}
use Rattle.bd_terms.specs.declared.node.Sym.{Sym}
use Rattle.bd_terms.specs.declared.node.Node.{Node}
use Rattle.bd_terms.specs.declared.node.Node.TheVariants.{True, Not, And, Or, Ite, Eq, App, Pred, Read, Write, Init}
use Rattle.bd_terms.specs.Graph.{IsGraph, Use, children, node_uses}
use Rattle.bd_terms.specs.Denotation.{World, Denoted, Truth, Word, applied, at_place, denoted, holds, node_value, truth, truth_of, values, word, word_of, words}
use Rattle.bd_terms.specs.Reaches.{Reaches, Child}
use Rattle.bd_terms.proofs.Denotations.{denoted-get}
use Rattle.bd_terms.proofs.Older.{Reaches-below}
use Rattle.bd_terms.proofs.Reaching.{children-below}
use Rattle.bd_terms.proofs.Symbols.{uses-get}
use Rattle.bd_function.specs.Tables.{is_symbol}
use Rattle.bd_function.specs.inner.Scalars.{as_denoted, scalar_at, word_at}
use Rattle.bd_function.specs.inner.Taken.{IsPlain}
use Rattle.bd_function.proofs.Tabling.{is_symbol-same, is_symbol-self}
use Rattle.bd_diverse.specs.Positive.{IsPositive}
use Rattle.bd_diverse.specs.inner.Spread.{IsUse, OwnRow, Placed, Spreading, is_among, spread_value, symbol_args}
use Rattle.bd_diverse.proofs.Reading.{FromTruth, FromWord, IsSpread, OwnConstant}
use Rattle.bd_diverse.proofs.Spreading.{plain_value, use_children}
use Rattle.bd_list.proofs.Membership.{first, Contains-cons, Contains-none}
use Rattle.bd_list.proofs.Truths.{or_left, or_right}
use Rattle.bd_function.proofs.Evaluating.{word_denoted, at_denoted}

among-Contains : (ks : List Sym) (s : Sym) → Contains ks s → list_any (is_symbol s) ks ≡ true
among-Contains [] s h = absurd (Contains-none s h)
among-Contains (k ∷ ks) s h = elim (Contains-cons k ks s h) [
  | inl e ↦ or_left (is_symbol s k) (list_any (is_symbol s) ks) (ap (is_symbol s) e ∙ is_symbol-self s)
  | inr q ↦ or_right (is_symbol s k) (list_any (is_symbol s) ks) (among-Contains ks s q)
]

-- being among symbols
pub among-exact : (ks : List Sym) (s : Sym) → (is_among ks s ≡ true) ↔ Contains ks s
among-exact ks s = (Contains-list_any is_symbol is_symbol-same ks s, among-Contains ks s)

-- no symbol is applied as a word and as a truth value
pub one_sort : (nodes : List Node) → IsGraph nodes → (i j : ℕ) (s : Sym) (xs ys : List ℕ) → slice_get nodes i ≡ Some (App s xs) → slice_get nodes j ≡ Some (Pred s ys) → ⊥
one_sort nodes g i j s xs ys a p =
    let u : Use = record { symbol = s; arity = length xs; sort = sort.Word } in
    let v : Use = record { symbol = s; arity = length ys; sort = sort.Bool } in
    let kept = (g.consistent u (uses-get nodes i (App s xs) a u (first u []))).keeps v (uses-get nodes j (Pred s ys) p v (first v [])) refl in
    let bad : sort.Bool ≡ sort.Word = kept.1 in
    cc

some_pair : (s t : Sym) (xs ys : List ℕ) → ◌≡◌ {A = Option (Sym × List ℕ)} (Some (s, xs)) (Some (t, ys)) → ◌≡◌ {A = Sym × List ℕ} (s, xs) (t, ys)
some_pair s t xs ys h = same_Some (s, xs) (t, ys) h

-- a use of a symbol that is applied as a word is one as a word
use_app-by : (nodes : List Node) → IsGraph nodes → (i j : ℕ) (s : Sym) (xs ys : List ℕ) → slice_get nodes i ≡ Some (App s xs) → (node : Node) → slice_get nodes j ≡ Some node → symbol_args node ≡ Some (s, ys) → node ≡ App s ys
use_app-by nodes g i j s xs ys a True at h = absurd (none-some _ h)
use_app-by nodes g i j s xs ys a (Not b) at h = absurd (none-some _ h)
use_app-by nodes g i j s xs ys a (And b c) at h = absurd (none-some _ h)
use_app-by nodes g i j s xs ys a (Or b c) at h = absurd (none-some _ h)
use_app-by nodes g i j s xs ys a (Ite b c d) at h = absurd (none-some _ h)
use_app-by nodes g i j s xs ys a (Eq b c) at h = absurd (none-some _ h)
use_app-by nodes g i j s xs ys a (App t zs) at h = ap (λ (p : Sym × List ℕ). App p.0 p.1) (some_pair t s zs ys h)
use_app-by nodes g i j s xs ys a (Pred t zs) at h =
    let e = some_pair t s zs ys h in
    absurd (one_sort nodes g i j s xs ys a (at ∙ ap (λ (p : Sym × List ℕ). Some (Pred p.0 p.1)) e))
use_app-by nodes g i j s xs ys a (Read m b) at h = absurd (none-some _ h)
use_app-by nodes g i j s xs ys a (Write m b d) at h = absurd (none-some _ h)
use_app-by nodes g i j s xs ys a (Init k) at h = absurd (none-some _ h)

pub use_app : (nodes : List Node) → IsGraph nodes → (i j : ℕ) (s : Sym) (xs ys : List ℕ) → slice_get nodes i ≡ Some (App s xs) → IsUse nodes j s ys → slice_get nodes j ≡ Some (App s ys)
use_app nodes g i j s xs ys a u = u.there ∙ ap Some (use_app-by nodes g i j s xs ys a u.node u.there u.is)

use_pred-by : (nodes : List Node) → IsGraph nodes → (i j : ℕ) (s : Sym) (xs ys : List ℕ) → slice_get nodes i ≡ Some (Pred s xs) → (node : Node) → slice_get nodes j ≡ Some node → symbol_args node ≡ Some (s, ys) → node ≡ Pred s ys
use_pred-by nodes g i j s xs ys a True at h = absurd (none-some _ h)
use_pred-by nodes g i j s xs ys a (Not b) at h = absurd (none-some _ h)
use_pred-by nodes g i j s xs ys a (And b c) at h = absurd (none-some _ h)
use_pred-by nodes g i j s xs ys a (Or b c) at h = absurd (none-some _ h)
use_pred-by nodes g i j s xs ys a (Ite b c d) at h = absurd (none-some _ h)
use_pred-by nodes g i j s xs ys a (Eq b c) at h = absurd (none-some _ h)
use_pred-by nodes g i j s xs ys a (App t zs) at h =
    let e = some_pair t s zs ys h in
    absurd (one_sort nodes g j i s ys xs (at ∙ ap (λ (p : Sym × List ℕ). Some (App p.0 p.1)) e) a)
use_pred-by nodes g i j s xs ys a (Pred t zs) at h = ap (λ (p : Sym × List ℕ). Pred p.0 p.1) (some_pair t s zs ys h)
use_pred-by nodes g i j s xs ys a (Read m b) at h = absurd (none-some _ h)
use_pred-by nodes g i j s xs ys a (Write m b d) at h = absurd (none-some _ h)
use_pred-by nodes g i j s xs ys a (Init k) at h = absurd (none-some _ h)

pub use_pred : (nodes : List Node) → IsGraph nodes → (i j : ℕ) (s : Sym) (xs ys : List ℕ) → slice_get nodes i ≡ Some (Pred s xs) → IsUse nodes j s ys → slice_get nodes j ≡ Some (Pred s ys)
use_pred nodes g i j s xs ys a u = u.there ∙ ap Some (use_pred-by nodes g i j s xs ys a u.node u.there u.is)

pub args_denoted : (w : World) (nodes : List Node) (done : List Scalar) (args : List ℕ) → ((c : ℕ) → Contains args c → as_denoted (scalar_at done c) ≡ denoted w nodes c) → map (word_at done) args ≡ words w nodes args
args_denoted w nodes done [] h = refl
args_denoted w nodes done (a ∷ args) h =
    let head : word_at done a ≡ word w nodes a = sym (word_denoted (scalar_at done a)) ∙ ap word_of (h a (first a args)) in
    let tail = args_denoted w nodes done args (λ c p. h c (Contains-append_right (a ∷ []) args c p)) in
    λ i. head i ∷ tail i

module _ (positive : List Sym) (bound : ℕ) (old : World) (nodes : List Node) (g : IsGraph nodes) (root : ℕ) (inside : root < length nodes)
    (plain : (k : ℕ) (node : Node) → Reaches nodes root k → slice_get nodes k ≡ Some node → IsPlain node) (done : List Scalar) (new : World)
    (h : Spreading positive bound old nodes root (length nodes) done new) where
  denoted_other : (k : ℕ) (node : Node) → slice_get nodes k ≡ Some node → Reaches nodes root k → IsPlain node → symbol_args node ≡ None
      → ((c : ℕ) → Contains (children node) c → as_denoted (scalar_at done c) ≡ denoted new nodes c)
      → as_denoted (scalar_at done k) ≡ node_value new (values new nodes) node
  denoted_other k node at r p none ih =
      h.others k node (slice_get_within nodes k node at) r at none
      ∙ plain_value old new (map as_denoted done) (values new nodes) node p none (λ c q. at_denoted done c ∙ ih c q)

  denoted_node : (k : ℕ) (node : Node) → slice_get nodes k ≡ Some node → Reaches nodes root k → IsPlain node
      → ((c : ℕ) → Contains (children node) c → as_denoted (scalar_at done c) ≡ denoted new nodes c)
      → as_denoted (scalar_at done k) ≡ node_value new (values new nodes) node
  denoted_node k (App s args) at r p ih =
      let u = h.uses k (App s args) s args (slice_get_within nodes k _ at) r at refl in
      ap as_denoted u.value ∙ ap (λ x. Word (scalar_word x)) (sym (u.row (new s).default)) ∙ ap (λ l. Word (applied new s l)) (args_denoted new nodes done args ih)
  denoted_node k (Pred s args) at r p ih =
      let u = h.uses k (Pred s args) s args (slice_get_within nodes k _ at) r at refl in
      ap as_denoted u.value ∙ ap (λ x. Truth (scalar_truth x)) (sym (u.row (new s).default)) ∙ ap (λ l. Truth (holds new s l)) (args_denoted new nodes done args ih)
  denoted_node k True at r p ih = denoted_other k True at r p refl ih
  denoted_node k (Not a) at r p ih = denoted_other k (Not a) at r p refl ih
  denoted_node k (And a b) at r p ih = denoted_other k (And a b) at r p refl ih
  denoted_node k (Or a b) at r p ih = denoted_other k (Or a b) at r p refl ih
  denoted_node k (Ite c a b) at r p ih = denoted_other k (Ite c a b) at r p refl ih
  denoted_node k (Eq a b) at r p ih = denoted_other k (Eq a b) at r p refl ih
  denoted_node k (Read m a) at r p ih = absurd p
  denoted_node k (Write m a d) at r p ih = absurd p
  denoted_node k (Init e) at r p ih = absurd p

  denoted-below : (n k : ℕ) → k < n → Reaches nodes root k → as_denoted (scalar_at done k) ≡ denoted new nodes k
  denoted-below zero k lt r = absurd (omega arith)
  denoted-below (suc n) k lt r =
      let below = Reaches-below nodes g root k r in
      let node = slice_index_or nodes k True in
      let at : slice_get nodes k ≡ Some node = slice_get-get_or nodes k True (omega (arith, below, inside)) in
      denoted_node k node at r (plain k node r at)
      (λ c p. let b = children-below nodes g k node at c p in denoted-below n c (omega (arith, b, lt)) (Child k node c r at p))
      ∙ sym (denoted-get new nodes g k node at)

  -- the scalars are what the terms denote in the new world
  pub settled-denoted : (k : ℕ) → Reaches nodes root k → as_denoted (scalar_at done k) ≡ denoted new nodes k
  settled-denoted k r = denoted-below (suc k) k (omega arith) r

  settled-words : (k : ℕ) (s : Sym) (args : List ℕ) → Reaches nodes root k → IsUse nodes k s args → map (word_at done) args ≡ words new nodes args
  settled-words k s args r u =
      args_denoted new nodes done args
      (λ c p. settled-denoted c (Child k u.node c r u.there (subst (λ l. Contains l c) (sym (use_children u.node s args u.is)) p)))

  module _ (exact : (s : Sym) → Contains positive s ↔ IsPositive nodes root s) where
    positive_from : (s : Sym) → is_among positive s ≡ true → IsPositive nodes root s
    positive_from s e = (exact s).0 ((among-exact positive s).0 e)

    not_positive : (s : Sym) → is_among positive s ≡ false → ¬ IsPositive nodes root s
    not_positive s e p = true≢false (sym ((among-exact positive s).1 ((exact s).1 p)) ∙ e)

    word_value : (from : ℕ) (s : Sym) (terms : List ℕ) → slice_get nodes from ≡ Some (App s terms) → (v : ℕ) → (b : Bool) → is_among positive s ≡ b
        → v ≡ scalar_word (spread_value positive bound old from s (words old nodes terms))
        → (IsPositive nodes root s × (v ≡ suc (bound + from))) ⊎ ((¬ IsPositive nodes root s) × (v ≡ word old nodes from))
    word_value from s terms there v true e is =
        inl (positive_from s e, is ∙ ap (λ t. scalar_word (if t then scalar.Word (suc (bound + from)) else at (old s) (words old nodes terms))) e)
    word_value from s terms there v false e is =
        inr (
          not_positive s e,
          is ∙ ap (λ t. scalar_word (if t then scalar.Word (suc (bound + from)) else at (old s) (words old nodes terms))) e ∙ sym (ap word_of (denoted-get old nodes g from (App s terms) there)),
        )

    truth_value : (i from : ℕ) (s : Sym) (args terms : List ℕ) → slice_get nodes i ≡ Some (Pred s args) → slice_get nodes from ≡ Some (Pred s terms) → (b : Bool) → is_among positive s ≡ b
        → scalar_truth (spread_value positive bound old from s (words old nodes terms)) ≡ truth old nodes from
    truth_value i from s args terms at_i there true e = let p = positive_from s e in absurd (one_sort nodes g p.applied.id i s p.applied.args args p.applied.there at_i)
    truth_value i from s args terms at_i there false e =
        ap (λ t. scalar_truth (if t then scalar.Word (suc (bound + from)) else at (old s) (words old nodes terms))) e ∙ sym (ap truth_of (denoted-get old nodes g from (Pred s terms) there))

    -- the world is spread
    pub settled-IsSpread : ((id : ℕ) → Reaches nodes root id → word old nodes id ≤ bound) → IsSpread old new nodes root bound
    settled-IsSpread small = record {
      applications = λ i s args r there.
          let u = h.uses i (App s args) s args (slice_get_within nodes i _ there) r there refl in
          let from_there = use_app nodes g i u.from s args u.terms there u.use_ in
          record {
            from = u.from;
            terms = u.terms;
            early = u.early;
            reached = u.reached;
            there = from_there;
            same = sym (settled-words u.from s u.terms u.reached u.use_) ∙ u.same ∙ settled-words i s args r (record { node = App s args; there = there; is = refl });
            value = word_value u.from s u.terms from_there (word new nodes i) (is_among positive s) refl (ap word_of (sym (settled-denoted i r) ∙ ap as_denoted u.value));
          };
      predicates = λ i s args r there.
          let u = h.uses i (Pred s args) s args (slice_get_within nodes i _ there) r there refl in
          let from_there = use_pred nodes g i u.from s args u.terms there u.use_ in
          record {
            from = u.from;
            terms = u.terms;
            early = u.early;
            reached = u.reached;
            there = from_there;
            same = sym (settled-words u.from s u.terms u.reached u.use_) ∙ u.same ∙ settled-words i s args r (record { node = Pred s args; there = there; is = refl });
            value = ap truth_of (sym (settled-denoted i r) ∙ ap as_denoted u.value) ∙ truth_value i u.from s args u.terms there from_there (is_among positive s) refl;
          };
      constants = λ s. elim (h.constants s) [
        | inl e ↦ inl (ap scalar_word e)
        | inr o ↦
            let p = positive_from s o.among in
            inr (record { from = o.from; there = use_app nodes g p.applied.id o.from s p.applied.args [] p.applied.there o.use_; value = ap scalar_word o.value })
      ];
      small = small;
    }

-- not being among them
pub among-none : (ks : List Sym) (s : Sym) → (Contains ks s → ⊥) → is_among ks s ≡ false
among-none ks s h = by (is_among ks s) refl
  where
    by : (b : Bool) → is_among ks s ≡ b → b ≡ false
    by true e = absurd (h ((among-exact ks s).0 e))
    by false e = refl
