-- A graph in which choices are gathered into trees denotes what it did.
use Rattle.std.proofs.Common.{◌≡◌, ℕ, ◌<◌, Bool, true, false, not, ◌&&◌, ◌||◌, cond, List, [], ◌∷◌, ◌++◌, length, get_or, All, Option, None, Some, refl, ap, sym, ◌∙◌, subst, zero, suc, arith}
use Rattle.std.proofs.lemmas.List.{append-nil, append_assoc}
use Rattle.std.proofs.lemmas.Option.{same_Some, slice_get-get_or}
use Rattle.bd_prop.specs.declared.atom.Atom.{Atom}
use Rattle.bd_prop.specs.declared.choices.Choice.{Choice}
use Rattle.bd_prop.specs.declared.choices.Choice.TheVariants as choice
use Rattle.bd_prop.specs.declared.gathering.Part.{Part}
use Rattle.bd_prop.specs.declared.gathering.Part.TheVariants.{Inside, Node}
use Rattle.bd_prop.specs.declared.node.PropNode.{PropNode}
use Rattle.bd_prop.specs.declared.node.PropNode.TheVariants.{True, Atom as OfAtom, Not, And, Or, Ite, Tree}
use Rattle.bd_prop.specs.Gathered.{AreRenamed, HasEntry, IsEntry, IsGathered, IsPart, IsPlaced, IsPlacedBy, branches, choice_node, choice_part, entry_at, leaf_of, negation_part}
use Rattle.bd_prop.specs.Graph.{IsGraph, StandsAt}
use Rattle.bd_prop.specs.Inside.{is_inside}
use Rattle.bd_prop.specs.Node.{children, chosen, first_value, named, negated_first, node_truth, tree_values}
use Rattle.bd_prop.specs.Truth.{truth_at}
use Rattle.bd_prop.proofs.Truths.{truth-node}

leaf_alone : (items : List Choice) (a : ℕ) → leaf_of items ≡ Some a → items ≡ choice.Leaf a ∷ []
leaf_alone [] a is = absurd cc
leaf_alone (choice.Test b ∷ items) a is = absurd cc
leaf_alone (choice.Not ∷ items) a is = absurd cc
leaf_alone (choice.Leaf b ∷ []) a is = ap (λ k. choice.Leaf k ∷ []) (same_Some b a is)
leaf_alone (choice.Leaf b ∷ item ∷ items) a is = absurd cc

first_same : (x y : Bool) (xs ys : List Bool) → ◌≡◌ {A = List Bool} (x ∷ xs) (y ∷ ys) → x ≡ y
first_same x y xs ys h = cc

module _ (v : Atom → Bool) (old new : List PropNode) (entries : List (List Choice)) (inside : ℕ → Bool) (graph : IsGraph old) (made : IsGraph new) where
  -- the items spell one tree of this value, before any others
  Spells : List Choice → Bool → Type 0
  Spells items b = (rest : List Choice) → tree_values (truth_at v new) (items ++ rest) ≡ b ∷ tree_values (truth_at v new) rest

  abbrev Means : ℕ → Type 0
  Means id = Spells (entry_at entries id) (truth_at v old id)

  alone : (items : List Choice) (b : Bool) → Spells items b → tree_values (truth_at v new) items ≡ b ∷ []
  unfolding Spells
  alone items b spells = ap (tree_values (truth_at v new)) (sym (append-nil items)) ∙ spells []

  placed_by : (items : List Choice) (leaf : Option ℕ) (x : ℕ) (b : Bool) → leaf_of items ≡ leaf → Spells items b → IsPlacedBy new items leaf x → truth_at v new x ≡ b
  placed_by items (Some a) x b is spells same =
      ap (truth_at v new) same ∙ first_same (truth_at v new a) b [] [] (ap (tree_values (truth_at v new)) (sym (leaf_alone items a is)) ∙ alone items b spells)
  placed_by items None x b is spells at = truth-node v new x (Tree items) made at ∙ ap first_value (alone items b spells)

  placed_value : (id x : ℕ) → Means id → IsPlaced new (entry_at entries id) x → truth_at v new x ≡ truth_at v old id
  placed_value id x means placed = placed_by (entry_at entries id) (leaf_of (entry_at entries id)) x (truth_at v old id) refl means placed

  leaf_value : (items : List Choice) (a : ℕ) (b : Bool) → leaf_of items ≡ Some a → Spells items b → truth_at v new a ≡ b
  leaf_value items a b is spells = placed_by items (Some a) a b is spells refl

  renamed_values : (items renamed : List Choice) → All Means (named items) → AreRenamed new entries items renamed → tree_values (truth_at v new) renamed ≡ tree_values (truth_at v old) items
  renamed_values [] renamed means is = ap (tree_values (truth_at v new)) is
  renamed_values (choice.Test a ∷ items) renamed means (x, rest, is, placed, more) =
      let first = placed_value a x (means 0 a (omega arith)) placed in
      let later = renamed_values items rest (λ j d h. means (suc j) d (omega arith)) more in
      ap (tree_values (truth_at v new)) is ∙ (λ i. chosen (first i) (later i))
  renamed_values (choice.Not ∷ items) renamed means (rest, is, more) =
      ap (tree_values (truth_at v new)) is ∙ ap negated_first (renamed_values items rest means more)
  renamed_values (choice.Leaf a ∷ items) renamed means (x, rest, is, placed, more) =
      let first = placed_value a x (means 0 a (omega arith)) placed in
      let later = renamed_values items rest (λ j d h. means (suc j) d (omega arith)) more in
      ap (tree_values (truth_at v new)) is ∙ (λ i. first i ∷ later i)

  -- a control with its two branches
  spells_branches : (x : ℕ) (first second : List Choice) (b c : Bool) → Spells first b → Spells second c → Spells (branches x first second) (cond (truth_at v new x) b c)
  unfolding Spells
  spells_branches x first second b c left right rest =
      ap (λ l. chosen (truth_at v new x) (tree_values (truth_at v new) l)) (append_assoc first second rest)
      ∙ ap (chosen (truth_at v new x)) (left (second ++ rest) ∙ ap (λ vs. b ∷ vs) (right rest))

  node_value : (x : ℕ) (first second : List Choice) (b c : Bool) (l m : Option ℕ) → leaf_of first ≡ l → leaf_of second ≡ m → Spells first b → Spells second c
      → node_truth v (truth_at v new) (choice_node x first second l m) ≡ cond (truth_at v new x) b c
  node_value x first second b c (Some y) (Some z) is also left right =
      let yes_is = leaf_value first y b is left in
      let no_is = leaf_value second z c also right in
      λ i. cond (truth_at v new x) (yes_is i) (no_is i)
  node_value x first second b c (Some y) None is also left right = ap first_value (alone (branches x first second) (cond (truth_at v new x) b c) (spells_branches x first second b c left right))
  node_value x first second b c None m is also left right = ap first_value (alone (branches x first second) (cond (truth_at v new x) b c) (spells_branches x first second b c left right))

  -- what stands for a node that is one of the new graph
  node_means : (id : ℕ) (n m : PropNode) (entry : List Choice) → StandsAt old id n → IsEntry new (Node m) entry → node_truth v (truth_at v new) m ≡ node_truth v (truth_at v old) n → Spells entry (truth_at v old id)
  unfolding Spells
  node_means id n m entry at (k, is, stands) same rest =
      ap (λ l. tree_values (truth_at v new) (l ++ rest)) is
      ∙ ap (λ b. b ∷ tree_values (truth_at v new) rest) (truth-node v new k m made stands ∙ same ∙ sym (truth-node v old id n graph at))

  inner_negation : (id a : ℕ) (items entry : List Choice) → StandsAt old id (Not a) → Spells items (truth_at v old a) → entry ≡ choice.Not ∷ items → Spells entry (truth_at v old id)
  unfolding Spells
  inner_negation id a items entry at spells same rest =
      ap (λ l. tree_values (truth_at v new) (l ++ rest)) same ∙ ap negated_first (spells rest)
      ∙ ap (λ b. b ∷ tree_values (truth_at v new) rest) (sym (truth-node v old id (Not a) graph at))

  negation_means : (id a : ℕ) (items entry : List Choice) (leaf : Option ℕ) → leaf_of items ≡ leaf → StandsAt old id (Not a) → Spells items (truth_at v old a) → IsEntry new (negation_part items leaf) entry → Spells entry (truth_at v old id)
  negation_means id a items entry (Some x) is at spells stands = node_means id (Not a) (Not x) entry at stands (ap not (leaf_value items x (truth_at v old a) is spells))
  negation_means id a items entry None is at spells stands = inner_negation id a items entry at spells stands

  choice_means : (own : Bool) (id a b c x : ℕ) (entry : List Choice) → StandsAt old id (Ite a b c) → Means a → Means b → Means c → IsPlaced new (entry_at entries a) x
      → IsEntry new (choice_part own x (entry_at entries b) (entry_at entries c)) entry → Spells entry (truth_at v old id)
  choice_means false id a b c x entry at control left right placed stands =
      node_means id (Ite a b c) _ entry at stands
      (node_value x (entry_at entries b) (entry_at entries c) (truth_at v old b) (truth_at v old c) (leaf_of (entry_at entries b)) (leaf_of (entry_at entries c)) refl refl left right
      ∙ ap (λ t. cond t (truth_at v old b) (truth_at v old c)) (placed_value a x control placed))
  choice_means true id a b c x entry at control left right placed stands =
      subst (λ l. Spells l (truth_at v old id)) (sym stands)
      (subst (Spells (branches x (entry_at entries b) (entry_at entries c)))
      (ap (λ t. cond t (truth_at v old b) (truth_at v old c)) (placed_value a x control placed) ∙ sym (truth-node v old id (Ite a b c) graph at))
      (spells_branches x (entry_at entries b) (entry_at entries c) (truth_at v old b) (truth_at v old c) left right))

  entry_means : (id : ℕ) (n : PropNode) (part : Part) (entry : List Choice) → StandsAt old id n → All Means (children n) → IsPart new entries (inside id) n part → IsEntry new part entry → Spells entry (truth_at v old id)
  entry_means id True part entry at means is stands = node_means id True True entry at (subst (λ p. IsEntry new p entry) is stands) refl
  entry_means id (OfAtom a) part entry at means is stands = node_means id (OfAtom a) (OfAtom a) entry at (subst (λ p. IsEntry new p entry) is stands) refl
  entry_means id (Not a) part entry at means is stands =
      negation_means id a (entry_at entries a) entry (leaf_of (entry_at entries a)) refl at (means 0 a (omega arith)) (subst (λ p. IsEntry new p entry) is stands)
  entry_means id (And a b) part entry at means (x, y, left, right, is) stands =
      let first = placed_value a x (means 0 a (omega arith)) left in
      let second = placed_value b y (means 1 a (omega arith)) right in
      node_means id (And a b) (And x y) entry at (subst (λ p. IsEntry new p entry) is stands) (λ i. first i && second i)
  entry_means id (Or a b) part entry at means (x, y, left, right, is) stands =
      let first = placed_value a x (means 0 a (omega arith)) left in
      let second = placed_value b y (means 1 a (omega arith)) right in
      node_means id (Or a b) (Or x y) entry at (subst (λ p. IsEntry new p entry) is stands) (λ i. first i || second i)
  entry_means id (Ite a b c) part entry at means (x, placed, is) stands =
      choice_means (inside id) id a b c x entry at (means 0 a (omega arith)) (means 1 a (omega arith)) (means 2 a (omega arith)) placed (subst (λ p. IsEntry new p entry) is stands)
  entry_means id (Tree items) part entry at means (renamed, are, is) stands =
      node_means id (Tree items) (Tree renamed) entry at (subst (λ p. IsEntry new p entry) is stands) (ap first_value (renamed_values items renamed means are))

  module _ (each : (id : ℕ) (n : PropNode) → StandsAt old id n → HasEntry new entries (inside id) n (entry_at entries id)) where
    means_below : (m id : ℕ) → id < m → id < length old → Means id
    means_below zero id low within = absurd (omega arith)
    means_below (suc m) id low within =
        let n : PropNode = get_or old id True in
        let at : StandsAt old id n = slice_get-get_or old id True within in
        let (part, is, stands) = each id n at in
        entry_means id n part (entry_at entries id) at (λ k d h.
        let less : get_or (children n) k d < id = graph id n at k d h in
        means_below m (get_or (children n) k d) (omega arith) (omega arith)) is stands

    pub gathered_value : (root new_root : ℕ) → root < length old → IsPlaced new (entry_at entries root) new_root → truth_at v new new_root ≡ truth_at v old root
    gathered_value root new_root within placed = placed_value root new_root (means_below (suc root) root (omega arith) within) placed

pub truth-gathered : (v : Atom → Bool) (old : List PropNode) (root : ℕ) (new : List PropNode) (new_root : ℕ) → IsGraph old → IsGraph new → root < length old → IsGathered old root new new_root
    → truth_at v new new_root ≡ truth_at v old root
truth-gathered v old root new new_root graph made within is = gathered_value v old new is.entries (is_inside old root) graph made is.each root new_root within is.root_is
