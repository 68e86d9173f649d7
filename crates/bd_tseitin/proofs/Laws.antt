-- What Tseitin's form of a root says: it is satisfiable exactly with the root.
use Rattle.std.proofs.Common.{◌≡◌, ◌↔◌, ℕ, ◌<◌, ◌≤◌, ◌+◌, ◌-◌, Bool, true, false, not, ◌&&◌, ◌||◌, List, [], ◌∷◌, ◌++◌, length, get_or, Contains, All, Some, slice_get, refl, ap, sym, ◌∙◌, subst, inl, inr, zero, suc, arith}
use mathlib.Core.Bool.{beq}
use Rattle.std.specs.Prelude.{slice_index}
use Rattle.std.proofs.lemmas.Bool.{false≢true, and_parts, and_from, cases_Bool}
use Rattle.std.proofs.lemmas.List.{get_or_default}
use Rattle.std.proofs.lemmas.List.Folds.{list_all-append}
use Rattle.std.proofs.lemmas.List.Elements.{Contains-get_or, All-contains, All-append, All-cons, All-nil, All-weaker, All-get_or}
use Rattle.std.proofs.lemmas.Option.{slice_get_within, slice_get-get_or, get_or_from_slice_get}
use Rattle.std.specs.List.{flat_map}
use Rattle.bd_prop.specs.declared.atom.Atom.{Atom}
use Rattle.bd_prop.specs.declared.node.PropNode.{PropNode}
use Rattle.bd_prop.specs.declared.node.PropNode.TheVariants.{True, Atom as OfAtom, Not, And, Or, Ite, Tree}
use Rattle.bd_prop.specs.Node.{children}
use Rattle.bd_prop.specs.Truth.{truth_at}
use Rattle.bd_prop.specs.Form.{node_at}
use Rattle.bd_prop.specs.Graph.{IsGraph, HasOneId, StandsAt, Reaches}
use Rattle.bd_prop.specs.Graph.Reaches.{Itself}
use Rattle.bd_prop.proofs.Truths.{truth-node}
use Rattle.bd_prop.proofs.Reaching.{reached_at_most, reached_children}
use Rattle.bd_cnf.specs.Literal.{Literal, literal, literal_value}
use Rattle.bd_cnf.specs.Clause.{IsWithin, clause_value, clauses_value, Satisfies}
use Rattle.bd_cnf.specs.Problem.{AreWithin}
use Rattle.bd_cnf.proofs.Literals.{negate-value}
use Rattle.bd_tseitin.specs.declared.row.AtomVar.{AtomVar}
use Rattle.bd_tseitin.specs.Definition.{is_gate, definition}
use Rattle.bd_tseitin.specs.Rows.{Agree, AreApart, AreRows, HasAtom}
use Rattle.bd_tseitin.specs.Form.{ReachesAtom, definition_at, rows_of, rows_at, IsTseitin}
use Rattle.bd_tseitin.proofs.Joined.{value-AreClauses}
use Rattle.bd_tseitin.proofs.Gates.{beq-same, same_from_beq, definition_value, undefined_value, is_defined}
use Rattle.bd_tseitin.proofs.Rising.{RowsRise, variables_apart, RowsRise-flat}
use Rattle.bd_tseitin.proofs.Within.{one_within, definition_within, within-AreClauses}
use Rattle.bd_tseitin.proofs.Flat.{All-flat, Contains-flat, list_all-flat, list_all-part}

module _ (nodes : List PropNode) (root vars : ℕ) (clauses : List (List Literal)) (rows : List AtomVar) (graph : IsGraph nodes) (inside : root < length nodes) (form : IsTseitin nodes root vars clauses rows) where
  reached_inside : (id : ℕ) → Reaches nodes root id → id < length nodes
  reached_inside id up = let low = reached_at_most nodes root id graph up in omega arith

  stands : (id : ℕ) → Reaches nodes root id → StandsAt nodes id (node_at nodes id)
  stands id up = slice_get-get_or nodes id True (reached_inside id up)

  -- a gate has a number, and its literal is that of the number
  pub number_of : (id : ℕ) (n : PropNode) → Reaches nodes root id → StandsAt nodes id n → is_gate n ≡ true → (k : ℕ) × (k < length form.gates) × (get_or form.gates k id ≡ id) × (form.literal_of id ≡ literal (k + 1) true)
  number_of id n up at gate =
      let has = (form.are_gates id).1 (n, at, gate, up) in
      let here : slice_index form.gates has.0 ≡ id = get_or_default form.gates has.0 0 id has.1 ∙ has.2 in
      (has.0, has.1, has.2, ap form.literal_of (sym here) ∙ form.numbered has.0 has.1)

  -- an assignment of the values that the gates denote
  pub denoted : (Atom → Bool) → ℕ → Bool
  denoted v x = truth_at v nodes (slice_index form.gates (x - 1))

  -- what holds of a reached node where it holds of the reached nodes before it holds of each
  reach_induction : (P : ℕ → Type 0) → ((id : ℕ) (n : PropNode) → Reaches nodes root id → StandsAt nodes id n → ((j : ℕ) → j < id → Reaches nodes root j → P j) → P id) → (m id : ℕ) → id < m → Reaches nodes root id → P id
  reach_induction P step zero id low up = absurd (omega arith)
  reach_induction P step (suc m) id low up = step id (node_at nodes id) up (stands id up) (λ j less reach. reach_induction P step m j (omega arith) reach)

  -- the children of a reached node are reached before it
  child_facts : (id : ℕ) (n : PropNode) → Reaches nodes root id → StandsAt nodes id n → All (λ c. (c < id) × Reaches nodes root c) (children n)
  child_facts id n up at k d h = (graph id n at k d h, reached_children nodes root id n up at k d h)

  abbrev HasValue : (Atom → Bool) → (ℕ → Bool) → ℕ → Type 0
  HasValue v a id = literal_value a (form.literal_of id) ≡ truth_at v nodes id

  -- a literal has the value of its node, if it is so for gates
  values_from_gates : (v : Atom → Bool) (a : ℕ → Bool)
      → ((id : ℕ) (n : PropNode) → Reaches nodes root id → StandsAt nodes id n → is_gate n ≡ true → ((j : ℕ) → j < id → Reaches nodes root j → HasValue v a j) → HasValue v a id)
      → (id : ℕ) → Reaches nodes root id → HasValue v a id
  values_from_gates v a gates id up = reach_induction (HasValue v a) by (suc id) id (omega arith) up
    where
      by : (i : ℕ) (n : PropNode) → Reaches nodes root i → StandsAt nodes i n → ((j : ℕ) → j < i → Reaches nodes root j → HasValue v a j) → HasValue v a i
      by i (Not b) reach at before =
          let child = child_facts i (Not b) reach at 0 b (omega arith) in
          ap (literal_value a) (form.negated i b reach at) ∙ negate-value a (form.literal_of b)
          ∙ ap not (before b child.0 child.1) ∙ sym (truth-node v nodes i (Not b) graph at)
      by i True reach at before = gates i True reach at refl before
      by i (OfAtom b) reach at before = gates i (OfAtom b) reach at refl before
      by i (And b c) reach at before = gates i (And b c) reach at refl before
      by i (Or b c) reach at before = gates i (Or b c) reach at refl before
      by i (Ite b c d) reach at before = gates i (Ite b c d) reach at refl before
      by i (Tree items) reach at before = gates i (Tree items) reach at refl before

  -- under those values each literal has the value of its node
  pub value-denoted : (v : Atom → Bool) (id : ℕ) → Reaches nodes root id → literal_value (denoted v) (form.literal_of id) ≡ truth_at v nodes id
  unfolding denoted
  value-denoted v id up = values_from_gates v (denoted v) (λ i n reach at gate before.
      let number = number_of i n reach at gate in
      let back : number.0 + 1 - 1 ≡ number.0 = omega arith in
      ap (literal_value (denoted v)) number.3 ∙ ap (λ k. truth_at v nodes (slice_index form.gates k)) back
      ∙ ap (truth_at v nodes) (get_or_default form.gates number.0 0 i number.1 ∙ number.2)) id up

  raw_and_unit : List (List Literal)
  raw_and_unit = flat_map (definition_at nodes form.literal_of) form.gates ++ (form.literal_of root ∷ []) ∷ []

  split_value : (a : ℕ → Bool) → clauses_value a clauses ≡ (clauses_value a (flat_map (definition_at nodes form.literal_of) form.gates) && ((literal_value a (form.literal_of root) || false) && true))
  unfolding raw_and_unit
  split_value a = value-AreClauses a raw_and_unit clauses form.defined ∙ list_all-append (clause_value a) (flat_map (definition_at nodes form.literal_of) form.gates) ((form.literal_of root ∷ []) ∷ [])

  one_true : (b : Bool) → ((b || false) && true) ≡ b
  one_true true = refl
  one_true false = refl

  clauses_of : ℕ → PropNode → List (List Literal)
  clauses_of id n = definition form.literal_of (form.literal_of id) n

  -- a gate's clauses say that it has its node's value, where those before it have theirs
  clauses_mean : (v : Atom → Bool) (a : ℕ → Bool) (id : ℕ) (n : PropNode) → Reaches nodes root id → StandsAt nodes id n → is_defined n ≡ true
      → ((j : ℕ) → j < id → Reaches nodes root j → HasValue v a j) → clauses_value a (clauses_of id n) ≡ beq (literal_value a (form.literal_of id)) (truth_at v nodes id)
  unfolding clauses_of
  clauses_mean v a id n up at says before =
      definition_value a v form.literal_of (truth_at v nodes) (form.literal_of id) n says
      (λ k d h. let facts = child_facts id n up at k d h in before (get_or (children n) k d) facts.0 facts.1)
      ∙ ap (beq (literal_value a (form.literal_of id))) (sym (truth-node v nodes id n graph at))

  -- where all literals have the values of their nodes, a gate's clauses are true
  gate_holds : (v : Atom → Bool) (a : ℕ → Bool) → ((id : ℕ) → Reaches nodes root id → HasValue v a id) → (g : ℕ) → Contains form.gates g → clauses_value a (definition_at nodes form.literal_of g) ≡ true
  unfolding clauses_of
  gate_holds v a values g has =
      let gate = (form.are_gates g).0 has in
      let n : PropNode = gate.0 in
      let at : StandsAt nodes g n = gate.1 in
      let up : Reaches nodes root g = gate.3 in
      ap (λ m. clauses_value a (clauses_of g m)) (get_or_from_slice_get nodes g n True at)
      ∙ elim (cases_Bool (is_defined n)) [
        | inl says ↦ clauses_mean v a g n up at says (λ j less reach. values j reach) ∙ beq-same _ _ (values g up)
        | inr other ↦ undefined_value a form.literal_of (form.literal_of g) n other
      ]

  -- so values that make the root true extend to an assignment that satisfies the clauses
  pub denoted_satisfies : (v : Atom → Bool) → truth_at v nodes root ≡ true → Satisfies (denoted v) clauses
  denoted_satisfies v holds =
      split_value (denoted v)
      ∙ and_from _ _ (list_all-flat (definition_at nodes form.literal_of) (clause_value (denoted v)) form.gates
      (λ k d h. gate_holds v (denoted v) (value-denoted v) (get_or form.gates k d) (Contains-get_or form.gates k d h)))
      (one_true _ ∙ value-denoted v root Itself ∙ holds)

  -- the row of a reached atom
  pub row_of : (id : ℕ) (a : Atom) → Reaches nodes root id → StandsAt nodes id (OfAtom a) → Contains rows (record { atom = a; var = (form.literal_of id).var })
  row_of id a up at =
      let number = number_of id (OfAtom a) up at refl in
      let row : AtomVar = record { atom = a; var = (form.literal_of id).var } in
      let mine : rows_at nodes form.literal_of id ≡ row ∷ [] = ap (λ n. rows_of n (form.literal_of id).var) (get_or_from_slice_get nodes id (OfAtom a) True at) in
      let there : Contains (rows_at nodes form.literal_of id) row = subst (λ rs. Contains rs row) (sym mine) (0, omega arith, refl) in
      let there_too : Contains (rows_at nodes form.literal_of (get_or form.gates number.0 id)) row = subst (λ g. Contains (rows_at nodes form.literal_of g) row) (sym number.2) there in
      subst (λ rs. Contains rs row) (sym form.rows_are) (Contains-flat (rows_at nodes form.literal_of) form.gates number.0 id row number.1 there_too)

  -- an assignment that satisfies the clauses gives the root the value true, under values that agree with it
  pub satisfied_holds : (a : ℕ → Bool) (v : Atom → Bool) → Satisfies a clauses → Agree a v rows → truth_at v nodes root ≡ true
  unfolding clauses_of
  satisfied_holds a v sat agree = sym (values_from_gates v a by root Itself) ∙ sym (one_true _) ∙ parts.1
    where
      parts : (clauses_value a (flat_map (definition_at nodes form.literal_of) form.gates) ≡ true) × (((literal_value a (form.literal_of root) || false) && true) ≡ true)
      parts = and_parts _ _ (sym (split_value a) ∙ sat)

      defined : (id : ℕ) (n : PropNode) → Reaches nodes root id → StandsAt nodes id n → is_gate n ≡ true → clauses_value a (clauses_of id n) ≡ true
      defined id n up at gate =
          let number = number_of id n up at gate in
          ap (λ m. clauses_value a (clauses_of id m)) (sym (get_or_from_slice_get nodes id n True at))
          ∙ ap (λ g. clauses_value a (definition_at nodes form.literal_of g)) (sym number.2)
          ∙ list_all-part (definition_at nodes form.literal_of) (clause_value a) form.gates number.0 id number.1 parts.0

      connective : (id : ℕ) (n : PropNode) → Reaches nodes root id → StandsAt nodes id n → is_gate n ≡ true → is_defined n ≡ true → ((j : ℕ) → j < id → Reaches nodes root j → HasValue v a j) → HasValue v a id
      connective id n up at gate says before = same_from_beq _ _ (sym (clauses_mean v a id n up at says before) ∙ defined id n up at gate)

      by : (id : ℕ) (n : PropNode) → Reaches nodes root id → StandsAt nodes id n → is_gate n ≡ true → ((j : ℕ) → j < id → Reaches nodes root j → HasValue v a j) → HasValue v a id
      by id True up at gate before = connective id True up at gate refl before
      by id (And b c) up at gate before = connective id (And b c) up at gate refl before
      by id (Or b c) up at gate before = connective id (Or b c) up at gate refl before
      by id (Ite b c d) up at gate before = connective id (Ite b c d) up at gate refl before
      by id (Tree items) up at gate before = connective id (Tree items) up at gate refl before
      by id (Not b) up at gate before = absurd (false≢true gate)
      by id (OfAtom b) up at gate before =
          let number = number_of id (OfAtom b) up at gate in
          let agrees : v b ≡ a (form.literal_of id).var = All-contains (λ (r : AtomVar). v r.atom ≡ a r.var) rows _ agree (row_of id b up at) in
          ap (literal_value a) number.3 ∙ ap a (ap (λ (l : Literal). l.var) (sym number.3)) ∙ sym agrees ∙ sym (truth-node v nodes id (OfAtom b) graph at)

  -- each variable is one of the gates'
  literal_low : (id : ℕ) → Reaches nodes root id → (form.literal_of id).var ≤ vars
  literal_low id up = reach_induction (λ i. (form.literal_of i).var ≤ vars) by (suc id) id (omega arith) up
    where
      counted : (i : ℕ) (n : PropNode) → Reaches nodes root i → StandsAt nodes i n → is_gate n ≡ true → (form.literal_of i).var ≤ vars
      counted i n reach at gate =
          let number = number_of i n reach at gate in
          let is : (form.literal_of i).var ≡ number.0 + 1 = ap (λ (l : Literal). l.var) number.3 in
          let many : vars ≡ length form.gates = form.counted in
          let few : number.0 < length form.gates = number.1 in
          omega arith

      by : (i : ℕ) (n : PropNode) → Reaches nodes root i → StandsAt nodes i n → ((j : ℕ) → j < i → Reaches nodes root j → (form.literal_of j).var ≤ vars) → (form.literal_of i).var ≤ vars
      by i (Not b) reach at low =
          let child = child_facts i (Not b) reach at 0 b (omega arith) in
          subst (λ (l : Literal). l.var ≤ vars) (sym (form.negated i b reach at)) (low b child.0 child.1)
      by i True reach at low = counted i True reach at refl
      by i (OfAtom b) reach at low = counted i (OfAtom b) reach at refl
      by i (And b c) reach at low = counted i (And b c) reach at refl
      by i (Or b c) reach at low = counted i (Or b c) reach at refl
      by i (Ite b c d) reach at low = counted i (Ite b c d) reach at refl
      by i (Tree items) reach at low = counted i (Tree items) reach at refl

  pub within_form : AreWithin vars clauses
  unfolding raw_and_unit
  within_form = within-AreClauses vars raw_and_unit clauses
      (All-append (IsWithin vars) (flat_map (definition_at nodes form.literal_of) form.gates) ((form.literal_of root ∷ []) ∷ [])
      (All-flat (definition_at nodes form.literal_of) (IsWithin vars) form.gates each)
      (All-cons (IsWithin vars) (form.literal_of root ∷ []) [] (one_within vars (form.literal_of root) (literal_low root Itself)) (All-nil (IsWithin vars))))
      form.defined
    where
      each : (k d : ℕ) → k < length form.gates → AreWithin vars (definition_at nodes form.literal_of (get_or form.gates k d))
      each k d h =
          let g = get_or form.gates k d in
          let gate = (form.are_gates g).0 (Contains-get_or form.gates k d h) in
          subst (λ m. AreWithin vars (definition form.literal_of (form.literal_of g) m)) (sym (get_or_from_slice_get nodes g gate.0 True gate.1))
          (definition_within vars form.literal_of (form.literal_of g) gate.0 (literal_low g gate.3)
          (λ j e short. let facts = child_facts g gate.0 gate.3 gate.1 j e short in literal_low (get_or (children gate.0) j e) facts.1))

  -- what a row stands for
  abbrev IsRow : AtomVar → Type 0
  IsRow r = (id : ℕ) × Reaches nodes root id × StandsAt nodes id (OfAtom r.atom) × (r.var ≡ (form.literal_of id).var)

  rows_stand : All IsRow rows
  rows_stand = subst (All IsRow) (sym form.rows_are) (All-flat (rows_at nodes form.literal_of) IsRow form.gates each)
    where
      by : (g : ℕ) (n : PropNode) → Reaches nodes root g → StandsAt nodes g n → All IsRow (rows_of n (form.literal_of g).var)
      by g (OfAtom a) up at = All-cons IsRow _ [] (g, up, at, refl) (All-nil IsRow)
      by g True up at = All-nil IsRow
      by g (Not b) up at = All-nil IsRow
      by g (And b c) up at = All-nil IsRow
      by g (Or b c) up at = All-nil IsRow
      by g (Ite b c d) up at = All-nil IsRow
      by g (Tree items) up at = All-nil IsRow

      each : (k d : ℕ) → k < length form.gates → All IsRow (rows_at nodes form.literal_of (get_or form.gates k d))
      each k d h =
          let g = get_or form.gates k d in
          let gate = (form.are_gates g).0 (Contains-get_or form.gates k d h) in
          subst (λ m. All IsRow (rows_of m (form.literal_of g).var)) (sym (get_or_from_slice_get nodes g gate.0 True gate.1)) (by g gate.0 gate.3 gate.1)

  -- the rows agree with the values that the gates denote
  pub denoted_agrees : (v : Atom → Bool) → Agree (denoted v) v rows
  denoted_agrees v = All-weaker IsRow (λ r. v r.atom ≡ denoted v r.var) by rows rows_stand
    where
      by : (r : AtomVar) → IsRow r → v r.atom ≡ denoted v r.var
      by r (id, up, at, is) =
          let number = number_of id (OfAtom r.atom) up at refl in
          sym (truth-node v nodes id (OfAtom r.atom) graph at) ∙ sym (value-denoted v id up)
          ∙ ap (literal_value (denoted v)) number.3 ∙ ap (denoted v) (ap (λ (l : Literal). l.var) (sym number.3) ∙ sym is)

  pub rows_exact : (a : Atom) → HasAtom rows a ↔ ReachesAtom nodes root a
  rows_exact a = (
    λ (row, has, same). let stands_for = All-contains IsRow rows row rows_stand has in (stands_for.0, stands_for.1, subst (λ b. StandsAt nodes stands_for.0 (OfAtom b)) same stands_for.2),
    λ (id, up, at). (_, row_of id a up at, refl),
  )

  pub AreRows-form : HasOneId nodes → AreRows vars rows
  AreRows-form one = record {
    from_one = All-weaker IsRow (λ r. 0 < r.var) (λ r is.
        let number = number_of is.0 (OfAtom r.atom) is.1 is.2 refl in
        let var : r.var ≡ number.0 + 1 = is.3 ∙ ap (λ (l : Literal). l.var) number.3 in
        omega arith) rows rows_stand;
    within = All-weaker IsRow (λ r. r.var ≤ vars) (λ r is. subst (λ x. x ≤ vars) (sym is.3) (literal_low is.0 is.1)) rows rows_stand;
    atoms = λ i j r s at_i at_j same.
        let first = row_at i r at_i in
        let second = row_at j s at_j in
        let node : StandsAt nodes second.0 (OfAtom r.atom) = subst (λ b. StandsAt nodes second.0 (OfAtom b)) (sym same) second.2 in
        let ids : first.0 ≡ second.0 = one first.0 second.0 (OfAtom r.atom) first.2 node in
        apart i j r s at_i at_j (first.3 ∙ ap (λ id. (form.literal_of id).var) ids ∙ sym second.3);
    variables = apart;
  }
    where
      row_at : (i : ℕ) (r : AtomVar) → slice_get rows i ≡ Some r → IsRow r
      row_at i r at = subst IsRow (get_or_from_slice_get rows i r r at) (All-get_or IsRow rows i r (slice_get_within rows i r at) rows_stand)

      apart : AreApart (λ (r : AtomVar). r.var) rows
      apart = variables_apart 0 rows (subst (RowsRise 0) (sym form.rows_are) (RowsRise-flat nodes form.literal_of form.gates 0 (λ k d h.
          ap (λ g. (form.literal_of g).var) (get_or_default form.gates k d 0 h) ∙ ap (λ (l : Literal). l.var) (form.numbered k h) ∙ omega arith)))
