-- Scalars are what terms denote that rest on no memory, and a term more spreads the world further.
use Rattle.std.proofs.Common.{◌≡◌, ◌↔◌, inl, inr, ℕ, zero, suc, ◌+◌, ◌<◌, ◌≤◌, Bool, false, not, ◌&&◌, ◌||◌, ◌==◌, if◌then◌else◌, List, [], ◌∷◌, ◌++◌, length, map, slice_get, Option, Some, None, Contains, IsTrue, refl, ap, sym, ◌∙◌, subst, arith, length-append}
use Rattle.std.proofs.lemmas.Option.{slice_get_within}
use Rattle.std.proofs.Math.Seq.{get_or-append_seam}
use Rattle.bd_model.specs.declared.table.Scalar.{Scalar}
use Rattle.bd_model.specs.declared.table.Scalar.TheVariants as scalar
use Rattle.bd_model.specs.Value.{scalar_truth, scalar_word}
use Rattle.bd_model.specs.Table.{at}
use Rattle.bd_terms.specs.declared.node.Sym.{Sym}
use Rattle.bd_terms.specs.declared.node.Node.{Node}
use Rattle.bd_terms.specs.declared.node.Node.TheVariants.{True, Not, And, Or, Ite, Eq, App, Pred, Read, Write, Init}
use Rattle.bd_terms.specs.Graph.{IsGraph, children}
use Rattle.bd_terms.specs.Denotation.{World, Denoted, Truth, Word, applied, at_place, denoted, holds, node_value, truth, truth_of, values, word, word_of, words}
use Rattle.bd_terms.specs.Reaches.{Reaches, Root, Child}
use Rattle.bd_terms.proofs.Denotations.{denoted-get}
use Rattle.bd_terms.proofs.Older.{Reaches-below, Reaches-trans}
use Rattle.bd_terms.proofs.Reaching.{children-below}
use Rattle.bd_function.specs.Flat.{ReachesNoMemory}
use Rattle.bd_function.specs.inner.Scalars.{as_denoted, scalar_at, truth_at, word_at}
use Rattle.bd_function.specs.inner.Taken.{IsPlain}
use Rattle.bd_function.proofs.Flattening.{plain_reached}
use Rattle.bd_diverse.specs.declared.base_world.BaseWorld.{BaseWorld}
use Rattle.bd_diverse.specs.inner.Rows.{AddsTerm, AddsUse, IsOld, SpreadsAll}
use Rattle.bd_diverse.specs.inner.Spread.{Spreading, read_as, symbol_args}
use Rattle.bd_diverse.specs.inner.Valued.{IsValued, connective, scalar_in}
use Rattle.bd_diverse.proofs.Reading.{IsSpread}
use Rattle.bd_diverse.proofs.Settling.{args_denoted, settled-IsSpread}
use Rattle.bd_diverse.proofs.Spreading.{Spreading-other, Spreading-use, lt-cases, plain_value, row_for, scalar-stay}
use Rattle.std.proofs.lemmas.Option.{none-some}
use Rattle.bd_function.proofs.Evaluating.{truth_denoted, word_denoted, as_denoted-if, at_denoted}

truth_is : (done : List Scalar) (a : ℕ) → truth_of (at_place (map as_denoted done) a) ≡ truth_at done a
truth_is done a = ap truth_of (at_denoted done a) ∙ truth_denoted (scalar_at done a)

word_is : (done : List Scalar) (a : ℕ) → word_of (at_place (map as_denoted done) a) ≡ word_at done a
word_is done a = ap word_of (at_denoted done a) ∙ word_denoted (scalar_at done a)

connective_denoted : (w : World) (done : List Scalar) (node : Node) → IsPlain node → symbol_args node ≡ None → node_value w (map as_denoted done) node ≡ as_denoted (connective done node)
connective_denoted w done True p n = refl
connective_denoted w done (Not a) p n = let x = truth_is done a in λ i. Truth (not (x i))
connective_denoted w done (And a b) p n = let x = truth_is done a in let y = truth_is done b in λ i. Truth (x i && y i)
connective_denoted w done (Or a b) p n = let x = truth_is done a in let y = truth_is done b in λ i. Truth (x i || y i)
connective_denoted w done (Ite c a b) p n =
    let t = truth_is done c in let x = at_denoted done a in let y = at_denoted done b in
    (λ i. if t i then x i else y i) ∙ sym (as_denoted-if (truth_at done c) (scalar_at done a) (scalar_at done b))
connective_denoted w done (Eq a b) p n = let x = word_is done a in let y = word_is done b in λ i. Truth (x i == y i)
connective_denoted w done (App s args) p n = absurd (none-some _ (sym n))
connective_denoted w done (Pred s args) p n = absurd (none-some _ (sym n))
connective_denoted w done (Read m a) p n = absurd p
connective_denoted w done (Write m a d) p n = absurd p
connective_denoted w done (Init e) p n = absurd p

-- what a term rests on rests on no memory either
pub no_memory-below : (nodes : List Node) (root c : ℕ) → ReachesNoMemory nodes root → Reaches nodes root c → ReachesNoMemory nodes c
no_memory-below nodes root c none r = record { none = λ id s m. none.none id (Reaches-trans nodes root c id r s) m }

module _ (w : World) (nodes : List Node) (g : IsGraph nodes) (i : ℕ) (node : Node) (there : slice_get nodes i ≡ Some node) (done : List Scalar) (plain : IsPlain node)
    (ih : (c : ℕ) → Contains (children node) c → as_denoted (scalar_at done c) ≡ denoted w nodes c) where
  other_valued : symbol_args node ≡ None → as_denoted (connective done node) ≡ denoted w nodes i
  other_valued none =
      sym (connective_denoted w done node plain none)
      ∙ plain_value w w (map as_denoted done) (values w nodes) node plain none (λ c p. at_denoted done c ∙ ih c p)
      ∙ sym (denoted-get w nodes g i node there)

node_valued : (w : World) (nodes : List Node) → IsGraph nodes → (i : ℕ) (node : Node) → slice_get nodes i ≡ Some node → (done : List Scalar) → IsPlain node
    → ((c : ℕ) → Contains (children node) c → as_denoted (scalar_at done c) ≡ denoted w nodes c) → as_denoted (scalar_in w done node) ≡ denoted w nodes i
node_valued w nodes g i (App s args) there done p ih = ap (λ l. Word (applied w s l)) (args_denoted w nodes done args ih) ∙ sym (denoted-get w nodes g i (App s args) there)
node_valued w nodes g i (Pred s args) there done p ih = ap (λ l. Truth (holds w s l)) (args_denoted w nodes done args ih) ∙ sym (denoted-get w nodes g i (Pred s args) there)
node_valued w nodes g i True there done p ih = other_valued w nodes g i True there done p ih refl
node_valued w nodes g i (Not a) there done p ih = other_valued w nodes g i (Not a) there done p ih refl
node_valued w nodes g i (And a b) there done p ih = other_valued w nodes g i (And a b) there done p ih refl
node_valued w nodes g i (Or a b) there done p ih = other_valued w nodes g i (Or a b) there done p ih refl
node_valued w nodes g i (Ite c a b) there done p ih = other_valued w nodes g i (Ite c a b) there done p ih refl
node_valued w nodes g i (Eq a b) there done p ih = other_valued w nodes g i (Eq a b) there done p ih refl
node_valued w nodes g i (Read m a) there done p ih = absurd p
node_valued w nodes g i (Write m a d) there done p ih = absurd p
node_valued w nodes g i (Init e) there done p ih = absurd p

-- a term more has its scalar
pub IsValued-more : (w : World) (nodes : List Node) → IsGraph nodes → (i : ℕ) (node : Node) (done : List Scalar) → IsValued w nodes i done → slice_get nodes i ≡ Some node
    → IsValued w nodes (i + 1) (done ++ scalar_in w done node ∷ [])
IsValued-more w nodes g i node done h there =
    let x = scalar_in w done node in
    record {
      size = omega (arith, length-append done (x ∷ []), h.size);
      values = λ k lt none. elim (lt-cases k i (omega (arith, lt))) [
        | inl b ↦ ap as_denoted (scalar-stay done x k (omega (arith, b, h.size))) ∙ h.values k b none
        | inr e ↦
            let here : slice_get nodes k ≡ Some node = ap (slice_get nodes) e ∙ there in
            ap as_denoted (ap (scalar_at (done ++ x ∷ [])) (e ∙ sym h.size) ∙ get_or-append_seam done x [] (scalar.Bool false))
            ∙ node_valued w nodes g k node here done (plain_reached nodes g k none k node Root here)
            (λ c p. let b = children-below nodes g k node here c p in h.values c (omega (arith, b, e)) (no_memory-below nodes k c none (Child k node c Root here p)))
      ];
    }

module _ (w : World) (old : BaseWorld) (nodes : List Node) (g : IsGraph nodes) (root : ℕ) (inside : root < length nodes) (none : ReachesNoMemory nodes root) (o : IsOld w nodes root old) where
  plain : (k : ℕ) (node : Node) → Reaches nodes root k → slice_get nodes k ≡ Some node → IsPlain node
  plain k node r there = plain_reached nodes g root none k node r there

  old_scalar : (k : ℕ) → k < length nodes → Reaches nodes root k → as_denoted (scalar_at old.scalars.items k) ≡ denoted w nodes k
  old_scalar k lt r = o.valued.values k lt (no_memory-below nodes root k none r)

  old_words : (place : ℕ) (node : Node) (args : List ℕ) → Reaches nodes root place → slice_get nodes place ≡ Some node → children node ≡ args → map (word_at old.scalars.items) args ≡ words w nodes args
  old_words place node args r there is =
      args_denoted w nodes old.scalars.items args
      (λ c p.
      let q : Contains (children node) c = subst (λ l. Contains l c) (sym is) p in
      let b = children-below nodes g place node there c q in
      let n = slice_get_within nodes place node there in
      old_scalar c (omega (arith, b, n)) (Child place node c r there q))

  module _ (place : ℕ) (done : List Scalar) (before after : World) (h : Spreading old.positive old.bound w nodes root place done before) (r : Reaches nodes root place) where
    use-spread : (node : Node) (s : Sym) (args : List ℕ) (x y : Scalar) → slice_get nodes place ≡ Some node → symbol_args node ≡ Some (s, args) → children node ≡ args → AddsUse w old done s args before after y
        → ((z : Scalar) → y ≡ z → x ≡ read_as node z) → Spreading old.positive old.bound w nodes root (suc place) (done ++ x ∷ []) after
    use-spread node s args x y there is below u as_node =
        subst (λ (v : World). Spreading old.positive old.bound w nodes root (suc place) (done ++ x ∷ []) v) (λ j t. sym (u.adds t) j)
        (Spreading-use old.positive old.bound w nodes g root plain place done before h node s args (map (word_at old.scalars.items) args) there is r (old_words place node args r there below)
        u.row x (u.is ∙ ap (λ n. row_for old.positive old.bound w n done s args (map (word_at old.scalars.items) args)) h.size) (as_node _ u.value))

    other-spread : (node : Node) (x : Scalar) → slice_get nodes place ≡ Some node → symbol_args node ≡ None → ((t : Sym) → after t ≡ before t) × (x ≡ connective done node)
        → Spreading old.positive old.bound w nodes root (suc place) (done ++ x ∷ []) after
    other-spread node x there is a =
        subst (λ (v : World). Spreading old.positive old.bound w nodes root (suc place) (done ++ x ∷ []) v) (λ j t. sym (a.0 t) j)
        (Spreading-other old.positive old.bound w nodes g root place done before h x plain node there is r
        (ap as_denoted a.1 ∙ sym (connective_denoted w done node (plain place node r there) is)))

    -- a term more
    pub term-spread : (node : Node) (x : Scalar) → slice_get nodes place ≡ Some node → AddsTerm w old done node before after x → Spreading old.positive old.bound w nodes root (suc place) (done ++ x ∷ []) after
    term-spread (App s args) x there a = use-spread (App s args) s args x a.0 there refl refl a.1 (λ z e. a.2 ∙ ap (λ y. scalar.Word (scalar_word y)) e)
    term-spread (Pred s args) x there a = use-spread (Pred s args) s args x a.0 there refl refl a.1 (λ z e. a.2 ∙ ap (λ y. scalar.Bool (scalar_truth y)) e)
    term-spread True x there a = other-spread True x there refl a
    term-spread (Not b) x there a = other-spread (Not b) x there refl a
    term-spread (And b c) x there a = other-spread (And b c) x there refl a
    term-spread (Or b c) x there a = other-spread (Or b c) x there refl a
    term-spread (Ite b c d) x there a = other-spread (Ite b c d) x there refl a
    term-spread (Eq b c) x there a = other-spread (Eq b c) x there refl a
    term-spread (Read m b) x there a = other-spread (Read m b) x there refl a
    term-spread (Write m b d) x there a = other-spread (Write m b d) x there refl a
    term-spread (Init e) x there a = other-spread (Init e) x there refl a

  -- in the end the world is spread
  pub all-spread : (new : World) → SpreadsAll w old nodes root new → IsSpread w new nodes root old.bound
  all-spread new s =
      settled-IsSpread old.positive old.bound w nodes g root inside plain s.done new s.spreading o.exact
      (λ id r.
      let below = Reaches-below nodes g root id r in
      let e : word w nodes id ≡ word_at old.scalars.items id = ap word_of (sym (old_scalar id (omega (arith, below, inside)) r)) ∙ word_denoted (scalar_at old.scalars.items id) in
      let k = o.small id in
      omega (arith, e, k))
