-- The node of a truth value has the value of its connective over its parts.
use Rattle.std.proofs.Common.{◌≡◌, ℕ, ◌<◌, ◌&&◌, ◌||◌, not, if◌then◌else◌, Bool, true, List, [], ◌∷◌, Option, Some, Result, Ok, Err, IfOk, length, slice_get, refl, ap, sym, ◌∙◌, subst}
use Rattle.bd_model.specs.declared.design.Sort.TheVariants as sort
use Rattle.bd_model.specs.Value.{scalar_truth}
use Rattle.bd_terms.specs.declared.node.Sym.{Sym}
use Rattle.bd_terms.specs.declared.node.Node.{Node}
use Rattle.bd_terms.specs.declared.node.Node.TheVariants.{True, Not, And, Or, Ite, Eq, App, Pred, Read, Write, Init}
use Rattle.bd_terms.specs.Graph.{IsGraph, sort_at}
use Rattle.bd_terms.proofs.Graphs.{sort_at-get}
use Rattle.bd_function.specs.declared.flat.FlatSym.{FlatSym}
use Rattle.bd_function.specs.Flat.{IsFlat}
use Rattle.bd_prop.specs.declared.atom.Atom.{Atom}
use Rattle.bd_prop.specs.declared.atom.Atom.TheVariants.{Truth as TruthOf}
use Rattle.bd_prop.specs.declared.node.PropNode.{PropNode}
use Rattle.bd_prop.specs.declared.node.PropNode.TheVariants as prop
use Rattle.bd_prop.specs.Form.{Adds, HasForm, not_form, and_form, or_form, ite_form}
use Rattle.bd_prop.specs.Graph.{Extends, StandsAt}
use Rattle.bd_prop.specs.Truth.{truth_at}
use Rattle.bd_equality.specs.Encoding.{IsVariable, atom_value}
use Rattle.bd_equality.specs.Made.{Term, Ways, OfTrue, OfNot, OfAnd, OfOr, OfIte, OfPred, conjoined, disjoined, negated, plainly, selected, symbol_variable}
use Rattle.bd_equality.specs.inner.Means.{Gives, Means}
use Rattle.bd_equality.proofs.Flats.{no_read, pred_is, truth_is, truth_ite}
use Rattle.bd_equality.proofs.Giving.{Gives-adds, adds_and, adds_ite, adds_not, adds_or}
use Rattle.bd_equality.proofs.Making.{MadeBy-Extends, comes}

module _ {E : Type 0} (nodes : List Node) (g : IsGraph nodes) (syms : List FlatSym) (marked : Option (List ℕ)) (kind : Ways → Type 0) (p p' : List PropNode) (grows : Extends p p') (r : Result ℕ E)
    (inside : IfOk r (λ id. id < length p')) (i : ℕ) where
  pub Gives-not : (a x : ℕ) → slice_get nodes i ≡ Some (Not a) → Means nodes syms marked kind p x (Term a) → IfOk r (λ id. HasForm p (not_form p x) p' id)
      → IfOk r (λ id. (v : Atom → Bool) → truth_at v p' id ≡ not (truth_at v p x)) → IfOk r (λ id. Gives nodes syms marked kind p p' id (Term i))
  Gives-not a x there m f t = by r inside f t
    where
      by : (r : Result ℕ E) → IfOk r (λ id. id < length p') → IfOk r (λ id. HasForm p (not_form p x) p' id)
          → IfOk r (λ id. (v : Atom → Bool) → truth_at v p' id ≡ not (truth_at v p x)) → IfOk r (λ id. Gives nodes syms marked kind p p' id (Term i))
      by (Err z) n f t = tt
      by (Ok id) n f t =
          Gives-adds nodes syms marked kind p p' (prop.Not x) id (Term i) tt grows n (adds_not p p' id x f)
          (λ v k. t (atom_value v) ∙ ap not (m.is v k) ∙ sym (truth_is nodes g i (Not a) there v))
          (λ ways h. OfNot i a x id there (MadeBy-Extends nodes syms marked ways p p' grows _ x (m.made ways h)) (comes p p' (x ∷ []) (negated x) id (m.inside, tt) f))

  pub Gives-and : (a b x y : ℕ) → slice_get nodes i ≡ Some (And a b) → Means nodes syms marked kind p x (Term a) → Means nodes syms marked kind p y (Term b) → IfOk r (λ id. HasForm p (and_form p x y) p' id)
      → IfOk r (λ id. (v : Atom → Bool) → truth_at v p' id ≡ (truth_at v p x && truth_at v p y)) → IfOk r (λ id. Gives nodes syms marked kind p p' id (Term i))
  Gives-and a b x y there m n f t = by r inside f t
    where
      by : (r : Result ℕ E) → IfOk r (λ id. id < length p') → IfOk r (λ id. HasForm p (and_form p x y) p' id)
          → IfOk r (λ id. (v : Atom → Bool) → truth_at v p' id ≡ (truth_at v p x && truth_at v p y)) → IfOk r (λ id. Gives nodes syms marked kind p p' id (Term i))
      by (Err z) q f t = tt
      by (Ok id) q f t =
          Gives-adds nodes syms marked kind p p' (prop.And x y) id (Term i) tt grows q (adds_and p p' id x y f)
          (λ v k. t (atom_value v) ∙ (λ j. m.is v k j && n.is v k j) ∙ sym (truth_is nodes g i (And a b) there v))
          (λ ways h. OfAnd i a b x y id there (MadeBy-Extends nodes syms marked ways p p' grows _ x (m.made ways h)) (MadeBy-Extends nodes syms marked ways p p' grows _ y (n.made ways h))
          (comes p p' (x ∷ y ∷ []) (conjoined x y) id (m.inside, (n.inside, tt)) f))

  pub Gives-or : (a b x y : ℕ) → slice_get nodes i ≡ Some (Or a b) → Means nodes syms marked kind p x (Term a) → Means nodes syms marked kind p y (Term b) → IfOk r (λ id. HasForm p (or_form p x y) p' id)
      → IfOk r (λ id. (v : Atom → Bool) → truth_at v p' id ≡ (truth_at v p x || truth_at v p y)) → IfOk r (λ id. Gives nodes syms marked kind p p' id (Term i))
  Gives-or a b x y there m n f t = by r inside f t
    where
      by : (r : Result ℕ E) → IfOk r (λ id. id < length p') → IfOk r (λ id. HasForm p (or_form p x y) p' id)
          → IfOk r (λ id. (v : Atom → Bool) → truth_at v p' id ≡ (truth_at v p x || truth_at v p y)) → IfOk r (λ id. Gives nodes syms marked kind p p' id (Term i))
      by (Err z) q f t = tt
      by (Ok id) q f t =
          Gives-adds nodes syms marked kind p p' (prop.Or x y) id (Term i) tt grows q (adds_or p p' id x y f)
          (λ v k. t (atom_value v) ∙ (λ j. m.is v k j || n.is v k j) ∙ sym (truth_is nodes g i (Or a b) there v))
          (λ ways h. OfOr i a b x y id there (MadeBy-Extends nodes syms marked ways p p' grows _ x (m.made ways h)) (MadeBy-Extends nodes syms marked ways p p' grows _ y (n.made ways h))
          (comes p p' (x ∷ y ∷ []) (disjoined x y) id (m.inside, (n.inside, tt)) f))

  pub Gives-ite : (c a b w x y : ℕ) → slice_get nodes i ≡ Some (Ite c a b) → Means nodes syms marked kind p w (Term c) → Means nodes syms marked kind p x (Term a) → Means nodes syms marked kind p y (Term b)
      → IfOk r (λ id. HasForm p (ite_form p w x y) p' id)
      → IfOk r (λ id. (v : Atom → Bool) → truth_at v p' id ≡ (if truth_at v p w then truth_at v p x else truth_at v p y)) → IfOk r (λ id. Gives nodes syms marked kind p p' id (Term i))
  Gives-ite c a b w x y there l m n f t = by r inside f t
    where
      by : (r : Result ℕ E) → IfOk r (λ id. id < length p') → IfOk r (λ id. HasForm p (ite_form p w x y) p' id)
          → IfOk r (λ id. (v : Atom → Bool) → truth_at v p' id ≡ (if truth_at v p w then truth_at v p x else truth_at v p y)) → IfOk r (λ id. Gives nodes syms marked kind p p' id (Term i))
      by (Err z) q f t = tt
      by (Ok id) q f t =
          Gives-adds nodes syms marked kind p p' (prop.Ite w x y) id (Term i) tt grows q (adds_ite p p' id w x y f)
          (λ v k. t (atom_value v) ∙ (λ j. if l.is v k j then m.is v k j else n.is v k j) ∙ sym (truth_ite nodes g i c a b there v))
          (λ ways h. OfIte i c a b w x y id there (MadeBy-Extends nodes syms marked ways p p' grows _ w (l.made ways h)) (MadeBy-Extends nodes syms marked ways p p' grows _ x (m.made ways h)) (MadeBy-Extends nodes syms marked ways p p' grows _ y (n.made ways h))
          (comes p p' (w ∷ x ∷ y ∷ []) (selected w x y) id (l.inside, (m.inside, (n.inside, tt))) f))

  pub Gives-pred : (root : ℕ) → IsFlat nodes root syms → (s : Sym) (args : List ℕ) (x : ℕ) → slice_get nodes i ≡ Some (Pred s args) → x ≡ symbol_variable s
      → IfOk r (λ id. StandsAt p' id (prop.Atom (TruthOf x)) × Adds p (prop.Atom (TruthOf x)) p')
      → IfOk r (λ id. (v : Atom → Bool) → truth_at v p' id ≡ v (TruthOf x)) → IfOk r (λ id. Gives nodes syms marked kind p p' id (Term i))
  Gives-pred root flat s args x there is f t = by r inside f t
    where
      by : (r : Result ℕ E) → IfOk r (λ id. id < length p') → IfOk r (λ id. StandsAt p' id (prop.Atom (TruthOf x)) × Adds p (prop.Atom (TruthOf x)) p')
          → IfOk r (λ id. (v : Atom → Bool) → truth_at v p' id ≡ v (TruthOf x)) → IfOk r (λ id. Gives nodes syms marked kind p p' id (Term i))
      by (Err z) q f t = tt
      by (Ok id) q f t =
          let known = pred_is nodes g root syms flat i s args there in
          Gives-adds nodes syms marked kind p p' (prop.Atom (TruthOf x)) id (Term i) (subst (λ y. IsVariable nodes sort.Bool y) (sym is) known.0) grows q f.1
          (λ v k. t (atom_value v) ∙ ap (λ y. scalar_truth (v y)) is ∙ sym (known.1 v))
          (λ ways h. OfPred i s args id there (comes p p' [] (plainly (prop.Atom (TruthOf (symbol_variable s)))) id tt (subst (λ y. plainly (prop.Atom (TruthOf y)) p p' id) is f)))

  pub Gives-true : slice_get nodes i ≡ Some True → IfOk r (λ id. StandsAt p' id prop.True × Adds p prop.True p')
      → IfOk r (λ id. (v : Atom → Bool) → truth_at v p' id ≡ true) → IfOk r (λ id. Gives nodes syms marked kind p p' id (Term i))
  Gives-true there f t = by r inside f t
    where
      by : (r : Result ℕ E) → IfOk r (λ id. id < length p') → IfOk r (λ id. StandsAt p' id prop.True × Adds p prop.True p')
          → IfOk r (λ id. (v : Atom → Bool) → truth_at v p' id ≡ true) → IfOk r (λ id. Gives nodes syms marked kind p p' id (Term i))
      by (Err z) q f t = tt
      by (Ok id) q f t =
          Gives-adds nodes syms marked kind p p' prop.True id (Term i) tt grows q f.1
          (λ v k. t (atom_value v) ∙ sym (truth_is nodes g i True there v))
          (λ ways h. OfTrue i id there (comes p p' [] (plainly prop.True) id tt f))

word_clash : sort.Word ≡ sort.Bool → ⊥
word_clash e = cc

memory_clash : sort.Memory ≡ sort.Bool → ⊥
memory_clash e = cc

-- a truth value that is none of the connectives, an equation or a variable is true
pub is_true_node : (nodes : List Node) → IsGraph nodes → (root : ℕ) (syms : List FlatSym) → IsFlat nodes root syms → (i : ℕ) (node : Node) → slice_get nodes i ≡ Some node → sort_at nodes i ≡ sort.Bool
    → ((a : ℕ) → node ≡ Not a → ⊥) → ((a b : ℕ) → node ≡ And a b → ⊥) → ((a b : ℕ) → node ≡ Or a b → ⊥) → ((c a b : ℕ) → node ≡ Ite c a b → ⊥) → ((a b : ℕ) → node ≡ Eq a b → ⊥)
    → ((s : Sym) (args : List ℕ) → node ≡ Pred s args → ⊥) → slice_get nodes i ≡ Some True
is_true_node nodes g root syms flat i True there s nn na nr ni ne np = there
is_true_node nodes g root syms flat i (Not a) there s nn na nr ni ne np = absurd (nn a refl)
is_true_node nodes g root syms flat i (And a b) there s nn na nr ni ne np = absurd (na a b refl)
is_true_node nodes g root syms flat i (Or a b) there s nn na nr ni ne np = absurd (nr a b refl)
is_true_node nodes g root syms flat i (Ite c a b) there s nn na nr ni ne np = absurd (ni c a b refl)
is_true_node nodes g root syms flat i (Eq a b) there s nn na nr ni ne np = absurd (ne a b refl)
is_true_node nodes g root syms flat i (Pred t args) there s nn na nr ni ne np = absurd (np t args refl)
is_true_node nodes g root syms flat i (Read m a) there s nn na nr ni ne np = absurd (no_read nodes g root syms flat i m a there)
is_true_node nodes g root syms flat i (App t args) there s nn na nr ni ne np = absurd (word_clash (sym (sort_at-get nodes g i (App t args) there) ∙ s))
is_true_node nodes g root syms flat i (Write m a d) there s nn na nr ni ne np = absurd (memory_clash (sym (sort_at-get nodes g i (Write m a d) there) ∙ s))
is_true_node nodes g root syms flat i (Init f) there s nn na nr ni ne np = absurd (memory_clash (sym (sort_at-get nodes g i (Init f) there) ∙ s))
