-- Nodes that compare as equal are the same, so equal nodes have one id.
use Rattle.std.proofs.Common.{◌≡◌, ℕ, Bool, true, false, List, [], ◌∷◌, ◌++◌, cond, Some, slice_get, refl, ap, sym, ◌∙◌, subst, get_or, ◌<◌, inl, inr}
use Rattle.std.proofs.lemmas.Bool.{false≢true, eqb-true, eq-eqb, and_parts, and_from, cases_Bool, cases_order}
use Rattle.std.proofs.lemmas.Option.{get_or_from_slice_get, slice_get_within}
use Rattle.std.proofs.lemmas.Map.Keys.{apart_from_distinct}
use Rattle.std.specs.List.{IsDistinct, list_any}
use Rattle.indexmap.specs.IndexSet.{insert_key}
use Rattle.bd_prop.specs.Form.{Adds}
use Rattle.bd_prop.specs.Graph.{StandsAt}
use Rattle.bd_prop.specs.declared.atom.Atom.{Atom}
use Rattle.bd_prop.specs.declared.atom.Atom.TheVariants.{Edge, Truth}
use Rattle.bd_prop.specs.declared.node.PropNode.{PropNode}
use Rattle.bd_prop.specs.declared.node.PropNode.TheVariants.{True, Atom as OfAtom, Not, And, Or, Ite, Tree}
use Rattle.bd_prop.specs.declared.choices.Choice.{Choice}
use Rattle.bd_prop.specs.declared.choices.Choice.TheVariants as choice
use Rattle.bd_prop.specs.contracts.choices.ChoicePartialEq.TheImpl.{eq-value as choice_eq-value}
use Rattle.std.specs.Cmp.Lexicographic.{pointwise}
use Rattle.bd_prop.specs.contracts.atom.AtomPartialEq.TheImpl.{eq-value as atom_eq-value}
use Rattle.bd_prop.specs.contracts.node.PropNodePartialEq.TheImpl.{eq-value}

abbrev pub atom_eq : Atom → Atom → Bool
atom_eq = atom_eq-value.it

abbrev pub node_eq : PropNode → PropNode → Bool
node_eq = eq-value.it

pub atom_same : (a b : Atom) → atom_eq a b ≡ true → a ≡ b
atom_same (Edge a b) (Edge c d) h =
    let parts = and_parts _ _ h in
    let first : a ≡ c = eqb-true a c parts.0 in
    let second : b ≡ d = eqb-true b d parts.1 in
    λ i. Edge (first i) (second i)
atom_same (Truth a) (Truth b) h = ap Truth (eqb-true a b h)
atom_same (Edge a b) (Truth c) h = absurd (false≢true h)
atom_same (Truth a) (Edge b c) h = absurd (false≢true h)

abbrev choice_eq : Choice → Choice → Bool
choice_eq = choice_eq-value.it

choice_same : (a b : Choice) → choice_eq a b ≡ true → a ≡ b
choice_same (choice.Test a) (choice.Test b) h = ap choice.Test (eqb-true a b h)
choice_same (choice.Test a) b h = absurd (false≢true h)
choice_same choice.Not choice.Not h = refl
choice_same choice.Not b h = absurd (false≢true h)
choice_same (choice.Leaf a) (choice.Leaf b) h = ap choice.Leaf (eqb-true a b h)
choice_same (choice.Leaf a) b h = absurd (false≢true h)

choices_same : (xs ys : List Choice) → pointwise choice_eq xs ys ≡ true → xs ≡ ys
choices_same [] [] h = refl
choices_same [] (y ∷ ys) h = absurd (false≢true h)
choices_same (x ∷ xs) [] h = absurd (false≢true h)
choices_same (x ∷ xs) (y ∷ ys) h =
    let parts = and_parts _ _ h in
    let first : x ≡ y = choice_same x y parts.0 in
    let rest : xs ≡ ys = choices_same xs ys parts.1 in
    λ i. first i ∷ rest i

pub node_same : (a b : PropNode) → node_eq a b ≡ true → a ≡ b
node_same True True h = refl
node_same True b h = absurd (false≢true h)
node_same (OfAtom a) (OfAtom b) h = ap OfAtom (atom_same a b h)
node_same (OfAtom a) b h = absurd (false≢true h)
node_same (Not a) (Not b) h = ap Not (eqb-true a b h)
node_same (Not a) b h = absurd (false≢true h)
node_same (And a b) (And c d) h =
    let parts = and_parts _ _ h in
    let first : a ≡ c = eqb-true a c parts.0 in
    let second : b ≡ d = eqb-true b d parts.1 in
    λ i. And (first i) (second i)
node_same (And a b) c h = absurd (false≢true h)
node_same (Or a b) (Or c d) h =
    let parts = and_parts _ _ h in
    let first : a ≡ c = eqb-true a c parts.0 in
    let second : b ≡ d = eqb-true b d parts.1 in
    λ i. Or (first i) (second i)
node_same (Or a b) c h = absurd (false≢true h)
node_same (Ite a b c) (Ite d e f) h =
    let parts = and_parts _ _ h in
    let more = and_parts _ _ parts.1 in
    let first : a ≡ d = eqb-true a d parts.0 in
    let second : b ≡ e = eqb-true b e more.0 in
    let third : c ≡ f = eqb-true c f more.1 in
    λ i. Ite (first i) (second i) (third i)
node_same (Ite a b c) d h = absurd (false≢true h)
node_same (Tree xs) (Tree ys) h = ap Tree (choices_same xs ys h)
node_same (Tree xs) b h = absurd (false≢true h)

-- a node that is inserted is there, and no other is new
pub inserted : (old new : List PropNode) (node stored : PropNode) (id : ℕ) → new ≡ insert_key node_eq old node → slice_get new id ≡ Some stored → node_eq node stored ≡ true → StandsAt new id node × Adds old node new
inserted old new node stored id keys at same = (
  at ∙ ap Some (sym (node_same node stored same)),
  elim (cases_Bool (list_any (node_eq node) old)) [
    | inl e ↦ inl (keys ∙ ap (λ b. cond b old (old ++ node ∷ [])) e)
    | inr e ↦ inr (keys ∙ ap (λ b. cond b old (old ++ node ∷ [])) e)
  ],
)

pub atom_eq-refl : (a : Atom) → atom_eq a a ≡ true
atom_eq-refl (Edge a b) = and_from _ _ (eq-eqb a a refl) (eq-eqb b b refl)
atom_eq-refl (Truth a) = eq-eqb a a refl

choices_eq-refl : (items : List Choice) → pointwise choice_eq items items ≡ true
choices_eq-refl [] = refl
choices_eq-refl (choice.Test a ∷ items) = and_from _ _ (eq-eqb a a refl) (choices_eq-refl items)
choices_eq-refl (choice.Not ∷ items) = choices_eq-refl items
choices_eq-refl (choice.Leaf a ∷ items) = and_from _ _ (eq-eqb a a refl) (choices_eq-refl items)

pub node_eq-refl : (n : PropNode) → node_eq n n ≡ true
node_eq-refl True = refl
node_eq-refl (OfAtom a) = atom_eq-refl a
node_eq-refl (Not a) = eq-eqb a a refl
node_eq-refl (And a b) = and_from _ _ (eq-eqb a a refl) (eq-eqb b b refl)
node_eq-refl (Or a b) = and_from _ _ (eq-eqb a a refl) (eq-eqb b b refl)
node_eq-refl (Ite a b c) = and_from _ _ (eq-eqb a a refl) (and_from _ _ (eq-eqb b b refl) (eq-eqb c c refl))
node_eq-refl (Tree items) = choices_eq-refl items

-- a key stands in one place
pub one_place : {K : Type 0} (e : K → K → Bool) → ((x : K) → e x x ≡ true) → (ks : List K) → IsDistinct e ks → (i j : ℕ) (x : K) → slice_get ks i ≡ Some x → slice_get ks j ≡ Some x → i ≡ j
one_place e own ks apart i j x at_i at_j =
    elim (cases_order i j) [
      | inl same ↦ same
      | inr (inl below) ↦ absurd (false≢true (sym (both i j below at_i at_j) ∙ own x))
      | inr (inr below) ↦ absurd (false≢true (sym (both j i below at_j at_i) ∙ own x))
    ]
  where
    both : (k l : ℕ) → k < l → slice_get ks k ≡ Some x → slice_get ks l ≡ Some x → e x x ≡ false
    both k l below at_k at_l =
        subst (λ y. e y x ≡ false) (get_or_from_slice_get ks k x x at_k)
        (subst (λ y. e (get_or ks k x) y ≡ false) (get_or_from_slice_get ks l x x at_l) (apart_from_distinct e ks k l x apart below (slice_get_within ks l x at_l)))
