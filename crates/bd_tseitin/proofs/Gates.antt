-- The clauses that define a gate say that its literal has the value of its connective.
use Rattle.std.proofs.Common.{◌≡◌, ℕ, Bool, true, false, not, ◌&&◌, ◌||◌, List, All, refl, sym, ◌∙◌, arith}
use Rattle.std.proofs.lemmas.Bool.{false≢true, true≢false}
use mathlib.Core.Bool.{beq}
use Rattle.bd_prop.specs.declared.atom.Atom.{Atom}
use Rattle.bd_prop.specs.declared.node.PropNode.{PropNode}
use Rattle.bd_prop.specs.declared.node.PropNode.TheVariants.{True, Atom as OfAtom, Not, And, Or, Ite, Tree}
use Rattle.bd_prop.specs.declared.choices.Choice.{Choice}
use Rattle.bd_prop.specs.Node.{children, first_value, named, node_truth, tree_values}
use Rattle.bd_cnf.specs.Literal.{Literal, literal_value}
use Rattle.bd_cnf.specs.Clause.{clauses_value}
use Rattle.bd_cnf.proofs.Literals.{negate-value}
use Rattle.bd_tseitin.specs.Definition.{and_clauses, choice_items, definition, or_clauses, tree_clauses, whole}
use Rattle.bd_tseitin.proofs.Trees.{tree_means}

pub beq-same : (x y : Bool) → x ≡ y → beq x y ≡ true
beq-same true true h = refl
beq-same true false h = absurd (true≢false h)
beq-same false true h = absurd (false≢true h)
beq-same false false h = refl

pub same_from_beq : (x y : Bool) → beq x y ≡ true → x ≡ y
same_from_beq true true h = refl
same_from_beq true false h = absurd (false≢true h)
same_from_beq false true h = absurd (false≢true h)
same_from_beq false false h = refl

and_table : (x y z : Bool) → ((not x || (y || false)) && ((not x || (z || false)) && ((x || (not y || (not z || false))) && true))) ≡ beq x (y && z)
and_table true true true = refl
and_table true true false = refl
and_table true false true = refl
and_table true false false = refl
and_table false true true = refl
and_table false true false = refl
and_table false false true = refl
and_table false false false = refl

or_table : (x y z : Bool) → ((x || (not y || false)) && ((x || (not z || false)) && ((not x || (y || (z || false))) && true))) ≡ beq x (y || z)
or_table true true true = refl
or_table true true false = refl
or_table true false true = refl
or_table true false false = refl
or_table false true true = refl
or_table false true false = refl
or_table false false true = refl
or_table false false false = refl

-- whether the node's clauses say what its literal is
abbrev pub is_defined : PropNode → Bool
is_defined (OfAtom a) = false
is_defined (Not a) = false
is_defined _ = true

module _ (v : ℕ → Bool) where
  pub value-and : (g a b : Literal) → clauses_value v (and_clauses g a b) ≡ beq (literal_value v g) (literal_value v a && literal_value v b)
  value-and g a b =
      (λ i. (negate-value v g i || (literal_value v a || false)) && ((negate-value v g i || (literal_value v b || false))
      && ((literal_value v g || (negate-value v a i || (negate-value v b i || false))) && true)))
      ∙ and_table (literal_value v g) (literal_value v a) (literal_value v b)

  pub value-or : (g a b : Literal) → clauses_value v (or_clauses g a b) ≡ beq (literal_value v g) (literal_value v a || literal_value v b)
  value-or g a b =
      (λ i. (literal_value v g || (negate-value v a i || false)) && ((literal_value v g || (negate-value v b i || false))
      && ((negate-value v g i || (literal_value v a || (literal_value v b || false))) && true)))
      ∙ or_table (literal_value v g) (literal_value v a) (literal_value v b)

  one_true : (b : Bool) → ((b || false) && true) ≡ b
  one_true true = refl
  one_true false = refl

  is_true : (b : Bool) → beq b true ≡ b
  is_true true = refl
  is_true false = refl

  open_whole : (b : Bool) → ((false || b) && true) ≡ b
  open_whole true = refl
  open_whole false = refl

  tree_value : (l : ℕ → Literal) (truth : ℕ → Bool) (g : Literal) (items : List Choice) → All (λ c. literal_value v (l c) ≡ truth c) (named items)
      → clauses_value v (tree_clauses l items (whole g)) ≡ beq (literal_value v g) (first_value (tree_values truth items))
  tree_value l truth g items h = tree_means v l truth items (whole g) h ∙ open_whole (beq (literal_value v g) (first_value (tree_values truth items)))

  -- the clauses say that the literal has the connective's value, where children have their values
  pub definition_value : (values : Atom → Bool) (l : ℕ → Literal) (truth : ℕ → Bool) (g : Literal) (n : PropNode) → is_defined n ≡ true
      → All (λ c. literal_value v (l c) ≡ truth c) (children n) → clauses_value v (definition l g n) ≡ beq (literal_value v g) (node_truth values truth n)
  definition_value values l truth g True d h = one_true (literal_value v g) ∙ sym (is_true (literal_value v g))
  definition_value values l truth g (OfAtom a) d h = absurd (false≢true d)
  definition_value values l truth g (Not a) d h = absurd (false≢true d)
  definition_value values l truth g (And a b) d h =
      let first : literal_value v (l a) ≡ truth a = h 0 a (omega arith) in
      let second : literal_value v (l b) ≡ truth b = h 1 a (omega arith) in
      value-and g (l a) (l b) ∙ (λ i. beq (literal_value v g) (first i && second i))
  definition_value values l truth g (Or a b) d h =
      let first : literal_value v (l a) ≡ truth a = h 0 a (omega arith) in
      let second : literal_value v (l b) ≡ truth b = h 1 a (omega arith) in
      value-or g (l a) (l b) ∙ (λ i. beq (literal_value v g) (first i || second i))
  definition_value values l truth g (Ite a b c) d h = tree_value l truth g (choice_items a b c) h
  definition_value values l truth g (Tree items) d h = tree_value l truth g items h

  -- and say nothing of an atom
  pub undefined_value : (l : ℕ → Literal) (g : Literal) (n : PropNode) → is_defined n ≡ false → clauses_value v (definition l g n) ≡ true
  undefined_value l g (OfAtom a) d = refl
  undefined_value l g (Not a) d = refl
  undefined_value l g n d = absurd (true≢false d)
