-- Each node of the graph adds the value of the variable that it applies.
use Rattle.std.proofs.Common.{◌≡◌, ℕ, ◌+◌, ◌*◌, ◌==◌, inl, inr, Bool, true, false, if◌then◌else◌, List, [], ◌∷◌, ◌++◌, length, take, drop, slice_get, Option, Some, None, Contains, refl, ap, sym, ◌∙◌, subst, arith, eq-eqb}
use Rattle.std.specs.Prelude.{unwrap_or, nat_eq}
use Rattle.std.specs.Map.{lookup}
use Rattle.std.proofs.lemmas.Bool.{eqb-true}
use Rattle.std.proofs.lemmas.List.Elements.{Contains-append_cases, Contains-append_left}
use Rattle.std.proofs.lemmas.Grind.{flat_map-append}
use Rattle.bd_model.specs.declared.design.Sort.{Sort}
use Rattle.bd_model.specs.declared.design.Sort.TheVariants as sort
use Rattle.bd_model.specs.declared.table.Scalar.{Scalar}
use Rattle.bd_model.specs.declared.table.Scalar.TheVariants as scalar
use Rattle.bd_model.specs.Fits.{scalar_sort}
use Rattle.bd_terms.specs.declared.node.Sym.TheVariants.{Function, Entry, Input, Address, Var}
use Rattle.bd_terms.specs.declared.node.Node.{Node}
use Rattle.bd_terms.specs.declared.node.Node.TheVariants.{True, Not, And, Or, Ite, Eq, App, Pred, Read, Write, Init}
use Rattle.bd_terms.specs.Graph.{IsGraph, Use, node_uses, uses}
use Rattle.bd_terms.proofs.Graphs.{uses-push}
use Rattle.bd_terms.proofs.Places.{around}
use Rattle.bd_terms.proofs.Symbols.{uses-get}
use Rattle.bd_function.specs.Flat.{HasSmallVariables, HaveSorts}
use Rattle.bd_prop.specs.declared.atom.Atom.{Atom}
use Rattle.bd_prop.specs.declared.atom.Atom.TheVariants as atom
use Rattle.bd_prop.specs.Values.{truth_of}
use Rattle.bd_transitive.specs.declared.graph.Order.{Order}
use Rattle.bd_transitive.specs.Triangle.{class_of}
use Rattle.bd_lift.specs.Decoded.{AreDecodedBy, decoded_word, is_end, variable_use}
use Rattle.bd_lift.specs.inner.Steps.{AreDecodedSo, HasSmallVariable, decoded_at, word_by}
use Rattle.bd_lift.proofs.Numbered.{take-get}
use Rattle.bd_list.proofs.Membership.{Contains-none, Contains-one}

if-both : {X : Type 0} → (t : Bool) (x y z : X) → (t ≡ true → x ≡ z) → y ≡ z → (if t then x else y) ≡ z
if-both true x y z h k = h refl
if-both false x y z h k = k

if-not : {X : Type 0} → (t : Bool) (x y z : X) → (t ≡ true → ⊥) → y ≡ z → (if t then x else y) ≡ z
if-not true x y z h k = absurd (h refl)
if-not false x y z h k = k

module _ (word : ℕ → ℕ) (atoms : List (Atom × Bool)) where
  word_kept : (node : Node) (x : ℕ) (before : Option Scalar) → before ≡ Some (scalar.Word (word x)) → ((args : List ℕ) → node ≡ Pred (Var x) args → ⊥) → decoded_at word atoms node x before ≡ Some (scalar.Word (word x))
  word_kept True x before h n = h
  word_kept (Not a) x before h n = h
  word_kept (And a b) x before h n = h
  word_kept (Or a b) x before h n = h
  word_kept (Ite c a b) x before h n = h
  word_kept (Eq a b) x before h n = h
  word_kept (App (Function f) args) x before h n = h
  word_kept (App (Entry f) args) x before h n = h
  word_kept (App (Input f) args) x before h n = h
  word_kept (App (Address f) args) x before h n = h
  word_kept (App (Var y) args) x before h n = if-both (y == x) _ before _ (λ e. ap (λ z. Some (scalar.Word (word z))) (eqb-true y x e)) h
  word_kept (Pred (Function f) args) x before h n = h
  word_kept (Pred (Entry f) args) x before h n = h
  word_kept (Pred (Input f) args) x before h n = h
  word_kept (Pred (Address f) args) x before h n = h
  word_kept (Pred (Var y) args) x before h n = if-not (y == x) _ before _ (λ e. n args (ap (λ z. Pred (Var z) args) (eqb-true y x e))) h
  word_kept (Read m a) x before h n = h
  word_kept (Write m a d) x before h n = h
  word_kept (Init e) x before h n = h

  truth_kept : (node : Node) (x : ℕ) (before : Option Scalar) → before ≡ Some (scalar.Bool (truth_of atoms (atom.Truth x))) → ((args : List ℕ) → node ≡ App (Var x) args → ⊥)
      → decoded_at word atoms node x before ≡ Some (scalar.Bool (truth_of atoms (atom.Truth x)))
  truth_kept True x before h n = h
  truth_kept (Not a) x before h n = h
  truth_kept (And a b) x before h n = h
  truth_kept (Or a b) x before h n = h
  truth_kept (Ite c a b) x before h n = h
  truth_kept (Eq a b) x before h n = h
  truth_kept (App (Function f) args) x before h n = h
  truth_kept (App (Entry f) args) x before h n = h
  truth_kept (App (Input f) args) x before h n = h
  truth_kept (App (Address f) args) x before h n = h
  truth_kept (App (Var y) args) x before h n = if-not (y == x) _ before _ (λ e. n args (ap (λ z. App (Var z) args) (eqb-true y x e))) h
  truth_kept (Pred (Function f) args) x before h n = h
  truth_kept (Pred (Entry f) args) x before h n = h
  truth_kept (Pred (Input f) args) x before h n = h
  truth_kept (Pred (Address f) args) x before h n = h
  truth_kept (Pred (Var y) args) x before h n = if-both (y == x) _ before _ (λ e. ap (λ z. Some (scalar.Bool (truth_of atoms (atom.Truth z)))) (eqb-true y x e)) h
  truth_kept (Read m a) x before h n = h
  truth_kept (Write m a d) x before h n = h
  truth_kept (Init e) x before h n = h

  word_new : (node : Node) (x : ℕ) (before : Option Scalar) → Contains (node_uses node) (variable_use x sort.Word) → decoded_at word atoms node x before ≡ Some (scalar.Word (word x))
  word_new True x before p = absurd (Contains-none _ p)
  word_new (Not a) x before p = absurd (Contains-none _ p)
  word_new (And a b) x before p = absurd (Contains-none _ p)
  word_new (Or a b) x before p = absurd (Contains-none _ p)
  word_new (Ite c a b) x before p = absurd (Contains-none _ p)
  word_new (Eq a b) x before p = absurd (Contains-none _ p)
  word_new (App s args) x before p =
      let e : s ≡ Var x = ap (λ (u : Use). u.symbol) (Contains-one _ _ p) in
      ap (λ z. decoded_at word atoms (App z args) x before) e ∙ ap (λ t. if t then Some (scalar.Word (word x)) else before) (eq-eqb x x refl)
  word_new (Pred s args) x before p = let e : sort.Bool ≡ sort.Word = ap (λ (u : Use). u.sort) (Contains-one _ _ p) in cc
  word_new (Read m a) x before p = absurd (Contains-none _ p)
  word_new (Write m a d) x before p = absurd (Contains-none _ p)
  word_new (Init k) x before p = let e : Entry k ≡ Var x = ap (λ (u : Use). u.symbol) (Contains-one _ _ p) in cc

  truth_new : (node : Node) (x : ℕ) (before : Option Scalar) → Contains (node_uses node) (variable_use x sort.Bool) → decoded_at word atoms node x before ≡ Some (scalar.Bool (truth_of atoms (atom.Truth x)))
  truth_new True x before p = absurd (Contains-none _ p)
  truth_new (Not a) x before p = absurd (Contains-none _ p)
  truth_new (And a b) x before p = absurd (Contains-none _ p)
  truth_new (Or a b) x before p = absurd (Contains-none _ p)
  truth_new (Ite c a b) x before p = absurd (Contains-none _ p)
  truth_new (Eq a b) x before p = absurd (Contains-none _ p)
  truth_new (App s args) x before p = let e : sort.Word ≡ sort.Bool = ap (λ (u : Use). u.sort) (Contains-one _ _ p) in cc
  truth_new (Pred s args) x before p =
      let e : s ≡ Var x = ap (λ (u : Use). u.symbol) (Contains-one _ _ p) in
      ap (λ z. decoded_at word atoms (Pred z args) x before) e ∙ ap (λ t. if t then Some (scalar.Bool (truth_of atoms (atom.Truth x))) else before) (eq-eqb x x refl)
  truth_new (Read m a) x before p = absurd (Contains-none _ p)
  truth_new (Write m a d) x before p = absurd (Contains-none _ p)
  truth_new (Init k) x before p = let e : Entry k ≡ Var x = ap (λ (u : Use). u.symbol) (Contains-one _ _ p) in cc

pub AreDecodedSo-none : (word : ℕ → ℕ) (atoms : List (Atom × Bool)) (h : ℕ → Option Scalar) → AreDecodedSo [] word atoms h
AreDecodedSo-none word atoms h = record { words = λ x p. absurd (Contains-none _ p); truths = λ x p. absurd (Contains-none _ p) }

front : (nodes : List Node) (i : ℕ) (node : Node) → slice_get nodes i ≡ Some node → (u : Use) → Contains (uses (take i nodes)) u → Contains (uses nodes) u
front nodes i node at u p =
    subst (λ l. Contains l u) (sym (ap uses (around nodes i node at) ∙ flat_map-append node_uses (take i nodes) (node ∷ drop (i + 1) nodes)))
    (Contains-append_left (uses (take i nodes)) (uses (node ∷ drop (i + 1) nodes)) u p)

-- one symbol has one sort
one_sort : (nodes : List Node) → IsGraph nodes → (u w : Use) → Contains (uses nodes) u → Contains (uses nodes) w → w.symbol ≡ u.symbol → w.sort ≡ u.sort
one_sort nodes g u w p q e = ((g.consistent u p).keeps w q e).1

pub AreDecodedSo-more : (nodes : List Node) → IsGraph nodes → (i : ℕ) (node : Node) → slice_get nodes i ≡ Some node → (word : ℕ → ℕ) (atoms : List (Atom × Bool)) (h k : ℕ → Option Scalar)
    → AreDecodedSo (take i nodes) word atoms h → ((y : ℕ) → k y ≡ decoded_at word atoms node y (h y)) → AreDecodedSo (take (i + 1) nodes) word atoms k
AreDecodedSo-more nodes g i node at word atoms h k so step =
    let all : uses (take (i + 1) nodes) ≡ uses (take i nodes) ++ node_uses node = ap uses (take-get nodes i node at) ∙ uses-push (take i nodes) node in
    record {
      words = λ x p. step x ∙ elim (Contains-append_cases (uses (take i nodes)) (node_uses node) _ (subst (λ l. Contains l (variable_use x sort.Word)) all p)) [
        | inl q ↦ word_kept word atoms node x (h x) (so.words x q) (λ args e.
            let own : Contains (uses nodes) (record { symbol = Var x; arity = length args; sort = sort.Bool }) =
            uses-get nodes i node at _ (subst (λ n. Contains (node_uses n) (record { symbol = Var x; arity = length args; sort = sort.Bool })) (sym e) (0, omega arith, refl)) in
            let bad : sort.Bool ≡ sort.Word = one_sort nodes g (variable_use x sort.Word) (record { symbol = Var x; arity = length args; sort = sort.Bool }) (front nodes i node at _ q) own refl in cc)
        | inr q ↦ word_new word atoms node x (h x) q
      ];
      truths = λ x p. step x ∙ elim (Contains-append_cases (uses (take i nodes)) (node_uses node) _ (subst (λ l. Contains l (variable_use x sort.Bool)) all p)) [
        | inl q ↦ truth_kept word atoms node x (h x) (so.truths x q) (λ args e.
            let own : Contains (uses nodes) (record { symbol = Var x; arity = length args; sort = sort.Word }) =
            uses-get nodes i node at _ (subst (λ n. Contains (node_uses n) (record { symbol = Var x; arity = length args; sort = sort.Word })) (sym e) (0, omega arith, refl)) in
            let bad : sort.Word ≡ sort.Bool = one_sort nodes g (variable_use x sort.Bool) (record { symbol = Var x; arity = length args; sort = sort.Word }) (front nodes i node at _ q) own refl in cc)
        | inr q ↦ truth_new word atoms node x (h x) q
      ];
    }

-- each node of a graph whose variables have small numbers
pub small-at : (nodes : List Node) (i : ℕ) (node : Node) → slice_get nodes i ≡ Some node → HasSmallVariables nodes → HasSmallVariable node
small-at nodes i (App (Var x) args) at h =
    let own : Use = record { symbol = Var x; arity = length args; sort = sort.Word } in
    h.small x own (uses-get nodes i (App (Var x) args) at own (0, omega arith, refl)) refl
small-at nodes i True at h = tt
small-at nodes i (Not a) at h = tt
small-at nodes i (And a b) at h = tt
small-at nodes i (Or a b) at h = tt
small-at nodes i (Ite c a b) at h = tt
small-at nodes i (Eq a b) at h = tt
small-at nodes i (App (Function f) args) at h = tt
small-at nodes i (App (Entry f) args) at h = tt
small-at nodes i (App (Input f) args) at h = tt
small-at nodes i (App (Address f) args) at h = tt
small-at nodes i (Pred s args) at h = tt
small-at nodes i (Read m a) at h = tt
small-at nodes i (Write m a d) at h = tt
small-at nodes i (Init e) at h = tt

unwrap-if : (t : Bool) (c d : ℕ) → unwrap_or (if t then Some c else None) d ≡ (if t then c else d)
unwrap-if true c d = refl
unwrap-if false c d = refl

-- the words by the classes of ends
pub AreDecodedSo-by : (nodes : List Node) (order : Order) (classes : List ℕ) (atoms : List (Atom × Bool)) (ends : List (ℕ × ℕ)) (h : ℕ → Option Scalar)
    → ((x : ℕ) → lookup (nat_eq x) ends ≡ (if is_end order.edges x then Some (class_of order.vertices classes x) else None))
    → AreDecodedSo nodes (word_by ends (length order.vertices)) atoms h → AreDecodedBy nodes order atoms classes (λ x. unwrap_or (h x) (scalar.Bool false))
AreDecodedSo-by nodes order classes atoms ends h known so = record {
  words = λ x p.
      let word : word_by ends (length order.vertices) x ≡ decoded_word order classes x =
      ap (λ o. unwrap_or o (length order.vertices + 2 * x)) (known x) ∙ unwrap-if (is_end order.edges x) (class_of order.vertices classes x) (length order.vertices + 2 * x) in
      ap (λ o. unwrap_or o (scalar.Bool false)) (so.words x p) ∙ ap scalar.Word word;
  truths = λ x p. ap (λ o. unwrap_or o (scalar.Bool false)) (so.truths x p);
}

node_use-scalar : (node : Node) (u : Use) → Contains (node_uses node) u → u.sort ≡ sort.Memory → ⊥
node_use-scalar True u p e = Contains-none _ p
node_use-scalar (Not a) u p e = Contains-none _ p
node_use-scalar (And a b) u p e = Contains-none _ p
node_use-scalar (Or a b) u p e = Contains-none _ p
node_use-scalar (Ite c a b) u p e = Contains-none _ p
node_use-scalar (Eq a b) u p e = Contains-none _ p
node_use-scalar (App s args) u p e = let k : sort.Word ≡ u.sort = ap (λ (x : Use). x.sort) (Contains-one _ _ p) in cc
node_use-scalar (Pred s args) u p e = let k : sort.Bool ≡ u.sort = ap (λ (x : Use). x.sort) (Contains-one _ _ p) in cc
node_use-scalar (Read m a) u p e = Contains-none _ p
node_use-scalar (Write m a d) u p e = Contains-none _ p
node_use-scalar (Init k) u p e = let z : sort.Word ≡ u.sort = ap (λ (x : Use). x.sort) (Contains-one _ _ p) in cc

-- no symbol's applications are memories
use-scalar : (nodes : List Node) (u : Use) → Contains (uses nodes) u → u.sort ≡ sort.Memory → ⊥
use-scalar [] u p e = Contains-none _ p
use-scalar (n ∷ nodes) u p e = elim (Contains-append_cases (node_uses n) (uses nodes) u p) [
  | inl q ↦ node_use-scalar n u q e
  | inr q ↦ use-scalar nodes u q e
]

-- so decoded values are of their variables' sorts
pub AreDecodedBy-sorts : (nodes : List Node) (order : Order) (atoms : List (Atom × Bool)) (classes : List ℕ) (v : ℕ → Scalar) → AreDecodedBy nodes order atoms classes v → HaveSorts v nodes
AreDecodedBy-sorts nodes order atoms classes v d = record { sorted = sorted }
  where
    sorted : (x : ℕ) (s : Sort) → Contains (uses nodes) (variable_use x s) → scalar_sort (v x) ≡ s
    sorted x sort.Bool p = ap scalar_sort (d.truths x p)
    sorted x sort.Word p = ap scalar_sort (d.words x p)
    sorted x sort.Memory p = absurd (use-scalar nodes (variable_use x sort.Memory) p refl)
