-- The clauses of a tree of choices: what they rest on, and what they say.
use Rattle.std.proofs.Common.{◌≡◌, ℕ, ◌<◌, Bool, true, false, not, ◌&&◌, ◌||◌, cond, List, [], ◌∷◌, ◌++◌, All, length, get_or, refl, ap, sym, ◌∙◌, subst, zero, suc, arith}
use Rattle.std.proofs.lemmas.List.{append-nil, append_assoc}
use Rattle.std.proofs.lemmas.List.Elements.{All-append, All-cons, All-nil}
use Rattle.std.proofs.lemmas.List.Folds.{list_all-append, list_any-append}
use mathlib.Core.Bool.{beq}
use Rattle.bd_prop.specs.declared.choices.Choice.{Choice}
use Rattle.bd_prop.specs.declared.choices.Choice.TheVariants as choice
use Rattle.bd_prop.specs.Node.{first_value, later_values, named, tree_values}
use Rattle.bd_cnf.specs.Literal.{Literal, negate, literal_value}
use Rattle.bd_cnf.specs.Clause.{clause_value, clauses_value}
use Rattle.bd_cnf.proofs.Literals.{negate-value}
use Rattle.bd_tseitin.specs.Definition.{Open, leaf_clauses, missing_clauses, tree_clauses}
use Rattle.bd_tseitin.specs.inner.Step.{Pushes, PushesBranch}
use Rattle.bd_tseitin.proofs.Joined.{Pushes-join}

-- what holds of the named nodes after the first item
rest_of : (P : ℕ → Type 0) (a : ℕ) (ids : List ℕ) → All P (a ∷ ids) → All P ids
rest_of P a ids h j d low = h (suc j) d (omega arith)

-- what holds of all named nodes holds of those of an item
pub named_at : (P : ℕ → Type 0) (items : List Choice) (k : ℕ) (d item : Choice) → k < length items → get_or items k d ≡ item → All P (named items) → All P (named (item ∷ []))
named_at P items k d item h is low = subst (λ x. All P (named (x ∷ []))) is (by items k h low)
  where
    by : (xs : List Choice) (j : ℕ) → j < length xs → All P (named xs) → All P (named (get_or xs j d ∷ []))
    by [] j short all = absurd (omega arith)
    by (choice.Test a ∷ xs) zero short all = All-cons P a [] (all 0 a (omega arith)) (All-nil P)
    by (choice.Not ∷ xs) zero short all = All-nil P
    by (choice.Leaf a ∷ xs) zero short all = All-cons P a [] (all 0 a (omega arith)) (All-nil P)
    by (choice.Test a ∷ xs) (suc j) short all = by xs j (omega arith) (rest_of P a (named xs) all)
    by (choice.Not ∷ xs) (suc j) short all = by xs j (omega arith) all
    by (choice.Leaf a ∷ xs) (suc j) short all = by xs j (omega arith) (rest_of P a (named xs) all)

-- the clauses rest on the literals of controls and leaves alone
pub tree_same : (f g : ℕ → Literal) (items : List Choice) (pending : List Open) → All (λ c. f c ≡ g c) (named items) → tree_clauses f items pending ≡ tree_clauses g items pending
tree_same f g [] pending h = refl
tree_same f g (choice.Test a ∷ items) [] h = refl
tree_same f g (choice.Test a ∷ items) (o ∷ pending) h =
    let first : f a ≡ g a = h 0 a (omega arith) in
    (λ i. tree_clauses f items ((o.0 ++ negate (first i) ∷ [], o.1) ∷ (o.0 ++ first i ∷ [], o.1) ∷ pending)) ∙ tree_same f g items _ (rest_of (λ c. f c ≡ g c) a (named items) h)
tree_same f g (choice.Not ∷ items) [] h = refl
tree_same f g (choice.Not ∷ items) (o ∷ pending) h = tree_same f g items ((o.0, negate o.1) ∷ pending) h
tree_same f g (choice.Leaf a ∷ items) [] h = refl
tree_same f g (choice.Leaf a ∷ items) (o ∷ pending) h =
    let first : f a ≡ g a = h 0 a (omega arith) in
    let rest = tree_same f g items pending (rest_of (λ c. f c ≡ g c) a (named items) h) in
    λ i. leaf_clauses o.0 o.1 (first i) ++ rest i

-- what holds of the gate's literal and the children's, and with each literal of its negation, holds of all literals
module _ (P : Literal → Type 0) (negated : (l : Literal) → P l → P (negate l)) (child : ℕ → Literal) where
  abbrev pub AreOpen : List Open → Type 0
  AreOpen [] = Unit {0}
  AreOpen (o ∷ pending) = All P o.0 × P o.1 × AreOpen pending

  pushed : (path : List Literal) (l : Literal) → All P path → P l → All P (path ++ l ∷ [])
  pushed path l h i = All-append P path (l ∷ []) h (All-cons P l [] i (All-nil P))

  ended : (path : List Literal) (g l : Literal) → All P path → P g → P l → All P (path ++ g ∷ l ∷ [])
  ended path g l h i j = All-append P path (g ∷ l ∷ []) h (All-cons P g (l ∷ []) i (All-cons P l [] j (All-nil P)))

  missing_all : (pending : List Open) → AreOpen pending → All (All P) (missing_clauses pending)
  missing_all [] is = All-nil (All P)
  missing_all (o ∷ pending) (path, gate, others) = All-cons (All P) (o.0 ++ negate o.1 ∷ []) (missing_clauses pending) (pushed o.0 (negate o.1) path (negated o.1 gate)) (missing_all pending others)

  pub tree_all : (items : List Choice) (pending : List Open) → All (λ c. P (child c)) (named items) → AreOpen pending → All (All P) (tree_clauses child items pending)
  tree_all [] pending h is = missing_all pending is
  tree_all (choice.Test a ∷ items) [] h is = All-nil (All P)
  tree_all (choice.Test a ∷ items) (o ∷ pending) h (path, gate, others) =
      let first : P (child a) = h 0 a (omega arith) in
      tree_all items ((o.0 ++ negate (child a) ∷ [], o.1) ∷ (o.0 ++ child a ∷ [], o.1) ∷ pending) (rest_of (λ c. P (child c)) a (named items) h)
      (pushed o.0 (negate (child a)) path (negated (child a) first), gate, (pushed o.0 (child a) path first, gate, others))
  tree_all (choice.Not ∷ items) [] h is = All-nil (All P)
  tree_all (choice.Not ∷ items) (o ∷ pending) h (path, gate, others) = tree_all items ((o.0, negate o.1) ∷ pending) h (path, negated o.1 gate, others)
  tree_all (choice.Leaf a ∷ items) [] h is = All-nil (All P)
  tree_all (choice.Leaf a ∷ items) (o ∷ pending) h (path, gate, others) =
      let first : P (child a) = h 0 a (omega arith) in
      All-append (All P) (leaf_clauses o.0 o.1 (child a)) (tree_clauses child items pending)
      (All-cons (All P) (o.0 ++ negate o.1 ∷ child a ∷ []) ((o.0 ++ o.1 ∷ negate (child a) ∷ []) ∷ []) (ended o.0 (negate o.1) (child a) path (negated o.1 gate) first)
      (All-cons (All P) (o.0 ++ o.1 ∷ negate (child a) ∷ []) [] (ended o.0 o.1 (negate (child a)) path gate (negated (child a) first)) (All-nil (All P))))
      (tree_all items pending (rest_of (λ c. P (child c)) a (named items) h) others)

-- the value of the clauses, where the literals below have the values of their nodes
module _ (a : ℕ → Bool) (child : ℕ → Literal) (truth : ℕ → Bool) where
  -- each branch has its value, where its path is false
  abbrev pub open_value : List Open → List Bool → Bool
  open_value [] vs = true
  open_value (o ∷ pending) vs = (clause_value a o.0 || beq (literal_value a o.1) (first_value vs)) && open_value pending (later_values vs)

  missing_table : (p g : Bool) → (p || (not g || false)) ≡ (p || beq g false)
  missing_table true g = refl
  missing_table false true = refl
  missing_table false false = refl

  missing_value : (pending : List Open) → clauses_value a (missing_clauses pending) ≡ open_value pending []
  missing_value [] = refl
  missing_value (o ∷ pending) =
      (λ i. list_any-append (literal_value a) o.0 (negate o.1 ∷ []) i && missing_value pending i)
      ∙ (λ i. (clause_value a o.0 || (negate-value a o.1 i || false)) && open_value pending [])
      ∙ (λ i. missing_table (clause_value a o.0) (literal_value a o.1) i && open_value pending [])

  leaf_table : (p g l : Bool) → ((p || (not g || (l || false))) && ((p || (g || (not l || false))) && true)) ≡ (p || beq g l)
  leaf_table true true true = refl
  leaf_table true true false = refl
  leaf_table true false true = refl
  leaf_table true false false = refl
  leaf_table false true true = refl
  leaf_table false true false = refl
  leaf_table false false true = refl
  leaf_table false false false = refl

  leaf_means : (path : List Literal) (gate leaf : Literal) → clauses_value a (leaf_clauses path gate leaf) ≡ (clause_value a path || beq (literal_value a gate) (literal_value a leaf))
  leaf_means path gate leaf =
      (λ i. list_any-append (literal_value a) path (negate gate ∷ leaf ∷ []) i && (list_any-append (literal_value a) path (gate ∷ negate leaf ∷ []) i && true))
      ∙ (λ i. (clause_value a path || (negate-value a gate i || (literal_value a leaf || false))) && ((clause_value a path || (literal_value a gate || (negate-value a leaf i || false))) && true))
      ∙ leaf_table (clause_value a path) (literal_value a gate) (literal_value a leaf)

  beq_not : (g t : Bool) → beq (not g) t ≡ beq g (not t)
  beq_not true true = refl
  beq_not true false = refl
  beq_not false true = refl
  beq_not false false = refl

  choice_table : (p g x y z r : Bool) → (((p || (not x || false)) || beq g y) && (((p || (x || false)) || beq g z) && r)) ≡ ((p || beq g (cond x y z)) && r)
  choice_table true g x y z r = refl
  choice_table false g true y z r = refl
  choice_table false g false y z r = refl

  pub tree_means : (items : List Choice) (pending : List Open) → All (λ c. literal_value a (child c) ≡ truth c) (named items) → clauses_value a (tree_clauses child items pending) ≡ open_value pending (tree_values truth items)
  tree_means [] pending h = missing_value pending
  tree_means (choice.Test x ∷ items) [] h = refl
  tree_means (choice.Test x ∷ items) (o ∷ pending) h =
      let first : literal_value a (child x) ≡ truth x = h 0 x (omega arith) in
      let vs : List Bool = tree_values truth items in
      let p : Bool = clause_value a o.0 in
      let g : Bool = literal_value a o.1 in
      let r : Bool = open_value pending (later_values (later_values vs)) in
      tree_means items ((o.0 ++ negate (child x) ∷ [], o.1) ∷ (o.0 ++ child x ∷ [], o.1) ∷ pending) (rest_of (λ c. literal_value a (child c) ≡ truth c) x (named items) h)
      ∙ (λ i. (list_any-append (literal_value a) o.0 (negate (child x) ∷ []) i || beq g (first_value vs)) && ((list_any-append (literal_value a) o.0 (child x ∷ []) i || beq g (first_value (later_values vs))) && r))
      ∙ (λ i. ((p || (negate-value a (child x) i || false)) || beq g (first_value vs)) && (((p || (literal_value a (child x) || false)) || beq g (first_value (later_values vs))) && r))
      ∙ choice_table p g (literal_value a (child x)) (first_value vs) (first_value (later_values vs)) r
      ∙ (λ i. (p || beq g (cond (first i) (first_value vs) (first_value (later_values vs)))) && r)
  tree_means (choice.Not ∷ items) [] h = refl
  tree_means (choice.Not ∷ items) (o ∷ pending) h =
      let vs : List Bool = tree_values truth items in
      tree_means items ((o.0, negate o.1) ∷ pending) h
      ∙ (λ i. (clause_value a o.0 || beq (negate-value a o.1 i) (first_value vs)) && open_value pending (later_values vs))
      ∙ (λ i. (clause_value a o.0 || beq_not (literal_value a o.1) (first_value vs) i) && open_value pending (later_values vs))
  tree_means (choice.Leaf x ∷ items) [] h = refl
  tree_means (choice.Leaf x ∷ items) (o ∷ pending) h =
      let first : literal_value a (child x) ≡ truth x = h 0 x (omega arith) in
      list_all-append (clause_value a) (leaf_clauses o.0 o.1 (child x)) (tree_clauses child items pending)
      ∙ (λ i. leaf_means o.0 o.1 (child x) i && tree_means items pending (rest_of (λ c. literal_value a (child c) ≡ truth c) x (named items) h) i)
      ∙ (λ i. (clause_value a o.0 || beq (literal_value a o.1) (first i)) && open_value pending (tree_values truth items))

-- branch by branch
module _ (child : ℕ → Literal) (path : List Literal) (gate : Literal) where
  pub puts_missing : (items : List Choice) (old new : List (List Literal)) → items ≡ [] → Pushes old ((path ++ negate gate ∷ []) ∷ []) new → PushesBranch child path gate items items old new
  puts_missing items old new is made = record {
    lists = (path ++ negate gate ∷ []) ∷ [];
    pushes = made;
    parts = λ pending. ap (λ l. tree_clauses child l ((path, gate) ∷ pending)) is ∙ ap (λ l. ((path ++ negate gate ∷ []) ∷ []) ++ tree_clauses child l pending) (sym is);
  }

  pub puts_leaf : (items rest : List Choice) (a : ℕ) (leaf : Literal) (old new : List (List Literal)) → items ≡ choice.Leaf a ∷ rest → leaf ≡ child a → Pushes old (leaf_clauses path gate leaf) new → PushesBranch child path gate items rest old new
  puts_leaf items rest a leaf old new is known made = record {
    lists = leaf_clauses path gate leaf;
    pushes = made;
    parts = λ pending. ap (λ l. tree_clauses child l ((path, gate) ∷ pending)) is ∙ ap (λ l. leaf_clauses path gate l ++ tree_clauses child rest pending) (sym known);
  }

  pub puts_negation : (items mid rest : List Choice) (below : Literal) (old new : List (List Literal)) → items ≡ choice.Not ∷ mid → below ≡ negate gate → PushesBranch child path below mid rest old new → PushesBranch child path gate items rest old new
  puts_negation items mid rest below old new is same made = record {
    lists = made.lists;
    pushes = made.pushes;
    parts = λ pending. ap (λ l. tree_clauses child l ((path, gate) ∷ pending)) is ∙ ap (λ l. tree_clauses child mid ((path, l) ∷ pending)) (sym same) ∙ made.parts pending;
  }

  pub puts_choice : (items mid next rest : List Choice) (a : ℕ) (control : Literal) (left right : List Literal) (old between new : List (List Literal)) → items ≡ choice.Test a ∷ mid → control ≡ child a
      → left ≡ path ++ negate control ∷ [] → right ≡ path ++ control ∷ []
      → PushesBranch child left gate mid next old between → PushesBranch child right gate next rest between new → PushesBranch child path gate items rest old new
  puts_choice items mid next rest a control left right old between new is known left_is right_is first second = record {
    lists = first.lists ++ second.lists;
    pushes = Pushes-join first.lists second.lists old between new first.pushes second.pushes;
    parts = λ pending.
        ap (λ l. tree_clauses child l ((path, gate) ∷ pending)) is
        ∙ (λ i. tree_clauses child mid ((path ++ negate (sym known i) ∷ [], gate) ∷ (path ++ sym known i ∷ [], gate) ∷ pending))
        ∙ (λ i. tree_clauses child mid ((sym left_is i, gate) ∷ (sym right_is i, gate) ∷ pending))
        ∙ first.parts ((right, gate) ∷ pending)
        ∙ ap (λ l. first.lists ++ l) (second.parts pending)
        ∙ sym (append_assoc first.lists second.lists (tree_clauses child rest pending));
  }

-- nothing is left for no branch
none_left : (child : ℕ → Literal) (items : List Choice) → tree_clauses child items [] ≡ []
none_left child [] = refl
none_left child (choice.Test a ∷ items) = refl
none_left child (choice.Not ∷ items) = refl
none_left child (choice.Leaf a ∷ items) = refl

pub puts_whole : (child : ℕ → Literal) (gate : Literal) (items left : List Choice) (old new : List (List Literal)) → PushesBranch child [] gate items left old new → Pushes old (tree_clauses child items (([], gate) ∷ [])) new
puts_whole child gate items left old new made =
    subst (λ ds. Pushes old ds new) (sym (made.parts [] ∙ ap (λ l. made.lists ++ l) (none_left child left) ∙ append-nil made.lists)) made.pushes
