-- Steps of the truth graph: each keeps its atoms, and gives a node that has the value of its connective.
use Rattle.std.proofs.Common.{◌≡◌, ℕ, ◌<◌, inl, inr, ◌==◌, ◌||◌, Bool, true, false, List, [], ◌∷◌, ◌++◌, Option, length, refl, ap, sym, ◌∙◌, subst, arith, length-append}
use Rattle.std.proofs.lemmas.Cmp.{nat_eq_equiv}
use Rattle.bd_model.specs.declared.design.Sort.TheVariants as sort
use Rattle.bd_model.specs.declared.table.Scalar.{Scalar}
use Rattle.bd_terms.specs.declared.node.Node.{Node}
use Rattle.bd_function.specs.declared.flat.FlatSym.{FlatSym}
use Rattle.bd_terms.proofs.Places.{get-push}
use Rattle.bd_prop.specs.declared.atom.Atom.TheVariants.{Edge as EdgeOf, Truth as TruthOf}
use Rattle.bd_prop.specs.declared.node.PropNode.{PropNode}
use Rattle.bd_prop.specs.declared.node.PropNode.TheVariants.{True, Atom as AtomOf, Not, And, Or, Ite, Tree}
use Rattle.bd_prop.specs.Form.{Adds, HasForm, node_at, not_form, and_form, or_form, ite_form, is_true, is_false}
use Rattle.bd_prop.specs.Graph.{Extends}
use Rattle.bd_prop.specs.Truth.{truth_at}
use Rattle.bd_prop.proofs.Truths.{truth-extends}
use Rattle.bd_equality.specs.Encoding.{IsVariable, KeepsMarkedApart, atom_value}
use Rattle.bd_equality.specs.Edges.{IsEdge}
use Rattle.bd_equality.specs.Made.{MadeBy, Subject, Ways, Words, Turned}
use Rattle.bd_equality.specs.inner.Means.{Gives, HasAtoms, Means, edge, value_of}
use Rattle.bd_equality.proofs.Making.{MadeBy-Extends}

pub within-Extends : (a b : List PropNode) (id : ℕ) → Extends a b → id < length a → id < length b
within-Extends a b id e h = omega (arith, ap length e.1, length-append a e.0)

-- the node is no atom, or an atom of the formula
abbrev pub FitsNode : List Node → Option (List ℕ) → PropNode → Type 0
FitsNode nodes marked (AtomOf (EdgeOf x y)) = IsEdge nodes marked (edge x y)
FitsNode nodes marked (AtomOf (TruthOf x)) = IsVariable nodes sort.Bool x
FitsNode nodes marked _ = Unit {0}

-- a step by a connective adds its node at most
module _ (p p' : List PropNode) (id : ℕ) where
  adds_not_by : (a : ℕ) (node : PropNode) → node_at p a ≡ node → HasForm p (not_form p a) p' id → Adds p (Not a) p'
  adds_not_by a (Not b) e h = inl ((rw e at h).1)
  adds_not_by a True e h = (rw e at h).1
  adds_not_by a (AtomOf x) e h = (rw e at h).1
  adds_not_by a (And b c) e h = (rw e at h).1
  adds_not_by a (Or b c) e h = (rw e at h).1
  adds_not_by a (Ite b c d) e h = (rw e at h).1
  adds_not_by a (Tree items) e h = (rw e at h).1

  pub adds_not : (a : ℕ) → HasForm p (not_form p a) p' id → Adds p (Not a) p'
  adds_not a h = adds_not_by a (node_at p a) refl h

  adds_and_by : (a b : ℕ) (x y : Bool) → (is_true p a || is_false p b || (a == b)) ≡ x → (is_false p a || is_true p b) ≡ y → HasForm p (and_form p a b) p' id → Adds p (And a b) p'
  adds_and_by a b true y e f h = inl ((rw e at h).1)
  adds_and_by a b false true e f h = inl ((rw (e, f) at h).1)
  adds_and_by a b false false e f h = (rw (e, f) at h).1

  pub adds_and : (a b : ℕ) → HasForm p (and_form p a b) p' id → Adds p (And a b) p'
  adds_and a b h = adds_and_by a b (is_true p a || is_false p b || (a == b)) (is_false p a || is_true p b) refl refl h

  adds_or_by : (a b : ℕ) (x y : Bool) → (is_false p a || is_true p b || (a == b)) ≡ x → (is_true p a || is_false p b) ≡ y → HasForm p (or_form p a b) p' id → Adds p (Or a b) p'
  adds_or_by a b true y e f h = inl ((rw e at h).1)
  adds_or_by a b false true e f h = inl ((rw (e, f) at h).1)
  adds_or_by a b false false e f h = (rw (e, f) at h).1

  pub adds_or : (a b : ℕ) → HasForm p (or_form p a b) p' id → Adds p (Or a b) p'
  adds_or a b h = adds_or_by a b (is_false p a || is_true p b || (a == b)) (is_true p a || is_false p b) refl refl h

  adds_ite_by : (a b c : ℕ) (x y : Bool) → (is_true p a || (b == c)) ≡ x → is_false p a ≡ y → HasForm p (ite_form p a b c) p' id → Adds p (Ite a b c) p'
  adds_ite_by a b c true y e f h = inl ((rw e at h).1)
  adds_ite_by a b c false true e f h = inl ((rw (e, f) at h).1)
  adds_ite_by a b c false false e f h = (rw (e, f) at h).1

  pub adds_ite : (a b c : ℕ) → HasForm p (ite_form p a b c) p' id → Adds p (Ite a b c) p'
  adds_ite a b c h = adds_ite_by a b c (is_true p a || (b == c)) (is_false p a) refl refl h

module _ (nodes : List Node) (syms : List FlatSym) (marked : Option (List ℕ)) where
  -- a node keeps what it means when the graph grows
  pub Means-Extends : (kind : Ways → Type 0) (p p' : List PropNode) (id : ℕ) (subject : Subject) → Extends p p' → Means nodes syms marked kind p id subject → Means nodes syms marked kind p' id subject
  Means-Extends kind p p' id subject e m = record {
    inside = within-Extends p p' id e m.inside;
    is = λ v k. truth-extends (atom_value v) p p' id e m.inside ∙ m.is v k;
    made = λ ways h. MadeBy-Extends nodes syms marked ways p p' e subject id (m.made ways h);
  }

  -- and in ways of a kind with more in it
  pub Means-kind : (kind kind' : Ways → Type 0) (p : List PropNode) (id : ℕ) (subject : Subject) → ((ways : Ways) → kind' ways → kind ways) → Means nodes syms marked kind p id subject → Means nodes syms marked kind' p id subject
  Means-kind kind kind' p id subject f m = record { inside = m.inside; is = m.is; made = λ ways h. m.made ways (f ways h) }

  pub Gives-kind : (kind kind' : Ways → Type 0) (p p' : List PropNode) (id : ℕ) (subject : Subject) → ((ways : Ways) → kind' ways → kind ways) → Gives nodes syms marked kind p p' id subject → Gives nodes syms marked kind' p p' id subject
  Gives-kind kind kind' p p' id subject f g = record { extends = g.extends; atoms = g.atoms; means = Means-kind kind kind' p' id subject f g.means }

  -- and stands for the equation of the same words the other way round
  pub Means-turned : (kind : Ways → Type 0) (p : List PropNode) (a b id : ℕ) → Means nodes syms marked kind p id (Words b a) → Means nodes syms marked kind p id (Words a b)
  Means-turned kind p a b id m = record {
    inside = m.inside;
    is = λ v k. m.is v k ∙ nat_eq_equiv.symm _ _;
    made = λ ways h. Turned a b id (m.made ways h);
  }

  atoms-fresh : (p : List PropNode) (node : PropNode) → FitsNode nodes marked node → HasAtoms nodes marked p → HasAtoms nodes marked (p ++ node ∷ [])
  atoms-fresh p node fits h = record {
    edges = λ id x y at. elim (get-push p node id (AtomOf (EdgeOf x y)) at) [
      | inl q ↦ h.edges id x y q
      | inr q ↦ subst (FitsNode nodes marked) (sym q.1) fits
    ];
    truths = λ id x at. elim (get-push p node id (AtomOf (TruthOf x)) at) [
      | inl q ↦ h.truths id x q
      | inr q ↦ subst (FitsNode nodes marked) (sym q.1) fits
    ];
  }

  -- a node that fits keeps the atoms those of the formula
  pub atoms-adds : (p p' : List PropNode) (node : PropNode) → FitsNode nodes marked node → Adds p node p' → HasAtoms nodes marked p → HasAtoms nodes marked p'
  atoms-adds p p' node fits (inl same) h = subst (HasAtoms nodes marked) (sym same) h
  atoms-adds p p' node fits (inr added) h = subst (HasAtoms nodes marked) (sym added) (atoms-fresh p node fits h)

  -- a step by a node that fits
  pub Gives-adds : (kind : Ways → Type 0) (p p' : List PropNode) (node : PropNode) (id : ℕ) (subject : Subject) → FitsNode nodes marked node
      → Extends p p' → id < length p' → Adds p node p' → ((v : ℕ → Scalar) → KeepsMarkedApart nodes marked v → truth_at (atom_value v) p' id ≡ value_of nodes subject v)
      → ((ways : Ways) → kind ways → MadeBy nodes syms marked ways p' subject id) → Gives nodes syms marked kind p p' id subject
  Gives-adds kind p p' node id subject fits e inside adds is made = record {
    extends = e;
    atoms = atoms-adds p p' node fits adds;
    means = record { inside = inside; is = is; made = made };
  }
