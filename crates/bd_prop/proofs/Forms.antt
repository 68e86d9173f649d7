-- A constructor's form denotes what it is named for.
use Rattle.std.proofs.Common.{◌≡◌, ℕ, ◌<◌, ◌+◌, Bool, true, false, not, ◌&&◌, ◌||◌, cond, List, [], ◌∷◌, ◌++◌, Some, length, get_or, refl, ap, sym, ◌∙◌, subst, inl, inr, arith}
use Rattle.std.proofs.lemmas.Bool.{false≢true, true≢false, eqb-true, cases_lt, or_cases, cond_both, cond-true, cond-false}
use Rattle.std.proofs.lemmas.Option.{slice_get-get_or, slice_get_within, get_or_from_slice_get}
use Rattle.std.proofs.lemmas.List.{append-nil, get_or_append_left, get_or_default, get_or_push, length_push}
use Rattle.bd_prop.specs.declared.atom.Atom.{Atom}
use Rattle.bd_prop.specs.declared.form.Rewrite.{Rewrite}
use Rattle.bd_prop.specs.declared.form.Rewrite.TheVariants.{Kept, Fresh}
use Rattle.bd_prop.specs.declared.node.PropNode.{PropNode}
use Rattle.bd_prop.specs.declared.node.PropNode.TheVariants.{True, Not}
use Rattle.bd_prop.specs.Node.{children}
use Rattle.bd_prop.specs.Truth.{truth_at}
use Rattle.bd_prop.specs.Graph.{IsBelow, IsGraph, StandsAt, Extends}
use Rattle.bd_prop.specs.Form.{node_at, is_true_node, is_true, is_false_node, is_false, not_form_of, not_form, and_form, or_form, ite_form, IsFormBelow, HasForm, form_truth}
use Rattle.bd_prop.proofs.Truths.{node_truth_same, truth-extends, truth-node}

-- the new list goes on from the old one
pub Extends-form : (old : List PropNode) (form : Rewrite) (new : List PropNode) (id : ℕ) → HasForm old form new id → Extends old new
Extends-form old (Kept kept) new id (is, same) = ([], same ∙ sym (append-nil old))
Extends-form old (Fresh node) new id (at, inl same) = ([], same ∙ sym (append-nil old))
Extends-form old (Fresh node) new id (at, inr added) = (node ∷ [], added)

pub within-form : (old : List PropNode) (form : Rewrite) (new : List PropNode) (id : ℕ) → IsFormBelow (length old) form → HasForm old form new id → id < length new
within-form old (Kept kept) new id below (is, same) = subst (λ ns. id < length ns) (sym same) (subst (λ k. k < length old) (sym is) below)
within-form old (Fresh node) new id below (at, added) = slice_get_within new id node at

-- a node more, whose children are there
pub IsGraph-push : (old : List PropNode) (node : PropNode) → IsGraph old → IsBelow (length old) node → IsGraph (old ++ node ∷ [])
IsGraph-push old node graph below id n at =
    elim (cases_lt id (length old)) [
      | inl h ↦ graph id n (slice_get-get_or old id n h ∙ ap Some (sym (get_or_append_left old (node ∷ []) n id h) ∙ get_or_from_slice_get _ id n n at))
      | inr h ↦
          let size : length (old ++ node ∷ []) ≡ length old + 1 = length_push old node in
          let inside : id < length (old ++ node ∷ []) = slice_get_within _ id n at in
          let last : length old ≡ id = omega arith in
          let same : node ≡ n = sym (get_or_push old node n id last) ∙ get_or_from_slice_get _ id n n at in
          subst (λ m. IsBelow id m) same (subst (λ k. IsBelow k node) last below)
    ]

pub IsGraph-form : (old : List PropNode) (form : Rewrite) (new : List PropNode) (id : ℕ) → IsGraph old → IsFormBelow (length old) form → HasForm old form new id → IsGraph new
IsGraph-form old (Kept kept) new id graph below (is, same) = subst IsGraph (sym same) graph
IsGraph-form old (Fresh node) new id graph below (at, inl same) = subst IsGraph (sym same) graph
IsGraph-form old (Fresh node) new id graph below (at, inr added) = subst IsGraph (sym added) (IsGraph-push old node graph below)

-- the id of a form denotes what the form does
pub truth-form : (v : Atom → Bool) (old : List PropNode) (form : Rewrite) (new : List PropNode) (id : ℕ) → IsGraph old → IsFormBelow (length old) form → HasForm old form new id → truth_at v new id ≡ form_truth v old form
truth-form v old (Kept kept) new id graph below (is, same) = λ i. truth_at v (same i) (is i)
truth-form v old (Fresh node) new id graph below has =
    truth-node v new id node (IsGraph-form old (Fresh node) new id graph below has) has.0
    ∙ node_truth_same v _ _ node (λ k d h. truth-extends v old new (get_or (children node) k d) (Extends-form old (Fresh node) new id has) (below k d h))

-- what a constant or an equal side does to a connective
and_left_true : (x y : Bool) → x ≡ true → y ≡ (x && y)
and_left_true true y h = refl
and_left_true false y h = absurd (false≢true h)

and_right_false : (x y : Bool) → y ≡ false → y ≡ (x && y)
and_right_false true y h = refl
and_right_false false y h = h

and_same : (x y : Bool) → x ≡ y → y ≡ (x && y)
and_same true y h = refl
and_same false y h = sym h

and_left_false : (x y : Bool) → x ≡ false → x ≡ (x && y)
and_left_false true y h = absurd (true≢false h)
and_left_false false y h = refl

and_right_true : (x y : Bool) → y ≡ true → x ≡ (x && y)
and_right_true true y h = sym h
and_right_true false y h = refl

or_left_false : (x y : Bool) → x ≡ false → y ≡ (x || y)
or_left_false true y h = absurd (true≢false h)
or_left_false false y h = refl

or_right_true : (x y : Bool) → y ≡ true → y ≡ (x || y)
or_right_true true y h = h
or_right_true false y h = refl

or_same : (x y : Bool) → x ≡ y → y ≡ (x || y)
or_same true y h = sym h
or_same false y h = refl

or_left_true : (x y : Bool) → x ≡ true → x ≡ (x || y)
or_left_true true y h = refl
or_left_true false y h = absurd (false≢true h)

or_right_false : (x y : Bool) → y ≡ false → x ≡ (x || y)
or_right_false true y h = refl
or_right_false false y h = sym h

ite_same : (x y z : Bool) → y ≡ z → y ≡ cond x y z
ite_same true y z h = refl
ite_same false y z h = h

-- the constants
stands : (nodes : List PropNode) (id : ℕ) → id < length nodes → StandsAt nodes id (node_at nodes id)
stands nodes id h = slice_get-get_or nodes id True h

module _ (v : Atom → Bool) (nodes : List PropNode) (graph : IsGraph nodes) where
  pub truth-true : (id : ℕ) → id < length nodes → is_true nodes id ≡ true → truth_at v nodes id ≡ true
  truth-true id h is = by (node_at nodes id) is (stands nodes id h)
    where
      by : (n : PropNode) → is_true_node n ≡ true → StandsAt nodes id n → truth_at v nodes id ≡ true
      by True is at = truth-node v nodes id True graph at
      by n is at = absurd (false≢true is)

  pub truth-false : (id : ℕ) → id < length nodes → is_false nodes id ≡ true → truth_at v nodes id ≡ false
  truth-false id h is = by (node_at nodes id) is (stands nodes id h)
    where
      by : (n : PropNode) → is_false_node nodes n ≡ true → StandsAt nodes id n → truth_at v nodes id ≡ false
      by (Not a) is at =
          let low : a < id = graph id (Not a) at 0 a (omega arith) in
          truth-node v nodes id (Not a) graph at ∙ ap not (truth-true a (omega arith) is)
      by n is at = absurd (false≢true is)

  pub truth-not : (a : ℕ) → a < length nodes → form_truth v nodes (not_form nodes a) ≡ not (truth_at v nodes a)
  truth-not a h = by (node_at nodes a) (stands nodes a h)
    where
      twice : (b : Bool) → b ≡ not (not b)
      twice true = refl
      twice false = refl

      by : (n : PropNode) → StandsAt nodes a n → form_truth v nodes (not_form_of a n) ≡ not (truth_at v nodes a)
      by (Not b) at = twice (truth_at v nodes b) ∙ ap not (sym (truth-node v nodes a (Not b) graph at))
      by n at = refl

  Denotes : Bool → Rewrite → Type 0
  Denotes b form = form_truth v nodes form ≡ b

  pub truth-and : (a b : ℕ) → a < length nodes → b < length nodes → form_truth v nodes (and_form nodes a b) ≡ (truth_at v nodes a && truth_at v nodes b)
  unfolding Denotes
  truth-and a b ha hb =
      let x = truth_at v nodes a in
      let y = truth_at v nodes b in
      cond_both _ _ _ (Denotes (x && y)) (λ e. elim (or_cases _ _ e) [
        | inl f ↦ elim (or_cases _ _ f) [
          | inl g ↦ and_left_true x y (truth-true a ha g)
          | inr g ↦ and_right_false x y (truth-false b hb g)
        ]
        | inr f ↦ and_same x y (ap (truth_at v nodes) (eqb-true a b f))
      ]) (λ _. cond_both _ _ _ (Denotes (x && y)) (λ e. elim (or_cases _ _ e) [
        | inl f ↦ and_left_false x y (truth-false a ha f)
        | inr f ↦ and_right_true x y (truth-true b hb f)
      ]) (λ _. refl))

  pub truth-or : (a b : ℕ) → a < length nodes → b < length nodes → form_truth v nodes (or_form nodes a b) ≡ (truth_at v nodes a || truth_at v nodes b)
  unfolding Denotes
  truth-or a b ha hb =
      let x = truth_at v nodes a in
      let y = truth_at v nodes b in
      cond_both _ _ _ (Denotes (x || y)) (λ e. elim (or_cases _ _ e) [
        | inl f ↦ elim (or_cases _ _ f) [
          | inl g ↦ or_left_false x y (truth-false a ha g)
          | inr g ↦ or_right_true x y (truth-true b hb g)
        ]
        | inr f ↦ or_same x y (ap (truth_at v nodes) (eqb-true a b f))
      ]) (λ _. cond_both _ _ _ (Denotes (x || y)) (λ e. elim (or_cases _ _ e) [
        | inl f ↦ or_left_true x y (truth-true a ha f)
        | inr f ↦ or_right_false x y (truth-false b hb f)
      ]) (λ _. refl))

  pub truth-ite : (a b c : ℕ) → a < length nodes → b < length nodes → c < length nodes → form_truth v nodes (ite_form nodes a b c) ≡ cond (truth_at v nodes a) (truth_at v nodes b) (truth_at v nodes c)
  unfolding Denotes
  truth-ite a b c ha hb hc =
      let x = truth_at v nodes a in
      let y = truth_at v nodes b in
      let z = truth_at v nodes c in
      cond_both _ _ _ (Denotes (cond x y z)) (λ e. elim (or_cases _ _ e) [
        | inl f ↦ sym (cond-true x y z (truth-true a ha f))
        | inr f ↦ ite_same x y z (ap (truth_at v nodes) (eqb-true b c f))
      ]) (λ _. cond_both _ _ _ (Denotes (cond x y z)) (λ e. sym (cond-false x y z (truth-false a ha e))) (λ _. refl))

-- a negation's child stands before it
pub below_negation : (nodes : List PropNode) (id a : ℕ) → IsGraph nodes → id < length nodes → node_at nodes id ≡ Not a → a < length nodes
below_negation nodes id a graph h is =
    let low : a < id = graph id (Not a) (stands nodes id h ∙ ap Some is) 0 a (omega arith) in
    omega arith

-- a node that is read stands there
pub read_node : (nodes : List PropNode) (id : ℕ) (n : PropNode) → id < length nodes → n ≡ get_or nodes id n → node_at nodes id ≡ n
read_node nodes id n h is = get_or_default nodes id True n h ∙ sym is

pub read_stands : (nodes : List PropNode) (id : ℕ) (n : PropNode) → id < length nodes → n ≡ get_or nodes id n → StandsAt nodes id n
read_stands nodes id n h is = slice_get-get_or nodes id n h ∙ ap Some (sym is)
