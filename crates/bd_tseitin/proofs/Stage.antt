-- The parts of the form when the nodes below k are done.
use Rattle.std.proofs.Common.{◌≡◌, ℕ, ◌<◌, ◌≤◌, ◌+◌, Bool, true, false, ◌&&◌, cond, List, [], ◌∷◌, ◌++◌, length, get_or, All, Option, None, Some, unwrap_or, is_some, refl, ap, sym, ◌∙◌, subst, inl, inr, suc, arith}
use Rattle.std.proofs.lemmas.Bool.{false≢true, true≢false, and_parts, and_from, cases_Bool, cases_eq}
use Rattle.std.proofs.lemmas.List.{append-nil, get_or_append_left, get_or_push, length_push}
use Rattle.std.proofs.lemmas.Grind.{flat_map-append}
use Rattle.std.proofs.lemmas.Option.{slice_get_within, slice_get-get_or, get_or_from_slice_get}
use Rattle.std.specs.List.{flat_map}
use Rattle.bd_prop.specs.declared.node.PropNode.{PropNode}
use Rattle.bd_prop.specs.declared.node.PropNode.TheVariants.{True, Atom as OfAtom, Not, And, Or, Ite, Tree}
use Rattle.bd_prop.specs.Node.{children}
use Rattle.bd_prop.specs.Form.{node_at}
use Rattle.bd_prop.specs.Graph.{IsGraph, StandsAt}
use Rattle.bd_prop.specs.Graph.Reaches.{Itself}
use Rattle.bd_prop.proofs.Reaching.{reached_children}
use Rattle.bd_cnf.specs.Literal.{Literal, literal, negate}
use Rattle.bd_tseitin.specs.declared.row.AtomVar.{AtomVar}
use Rattle.bd_tseitin.specs.declared.form.PartialForm.{PartialForm}
use Rattle.bd_tseitin.specs.Definition.{is_gate, and_clauses, choice_items, or_clauses, definition, whole, AreClauses}
use Rattle.bd_tseitin.specs.Form.{definition_at, rows_of, rows_at, IsTseitin}
use Rattle.bd_tseitin.specs.inner.Step.{known, AreKnown, Pushes, literal_in, AddsNode}
use Rattle.bd_tseitin.proofs.Joined.{AreClauses-append}
use Rattle.bd_tseitin.proofs.Reached.{AreReached}
use Rattle.bd_tseitin.proofs.Trees.{tree_same}
use Rattle.bd_tseitin.proofs.Numbering.{has_variable, gates, literal_of, literal_for, literal-node, gates_have, have_gates, length-gates, gates_numbered}

-- a node's clauses rest on its children's literals alone
definition_same : (f g : ℕ → Literal) (gate : Literal) (n : PropNode) → All (λ c. f c ≡ g c) (children n) → definition f gate n ≡ definition g gate n
definition_same f g gate True h = refl
definition_same f g gate (OfAtom a) h = refl
definition_same f g gate (Not a) h = refl
definition_same f g gate (And a b) h = let first : f a ≡ g a = h 0 a (omega arith) in let second : f b ≡ g b = h 1 a (omega arith) in λ i. and_clauses gate (first i) (second i)
definition_same f g gate (Or a b) h = let first : f a ≡ g a = h 0 a (omega arith) in let second : f b ≡ g b = h 1 a (omega arith) in λ i. or_clauses gate (first i) (second i)
definition_same f g gate (Ite a b c) h = tree_same f g (choice_items a b c) (whole gate) h
definition_same f g gate (Tree items) h = tree_same f g items (whole gate) h

no_definition : (f : ℕ → Literal) (gate : Literal) (n : PropNode) → is_gate n ≡ false → definition f gate n ≡ []
no_definition f gate (Not a) h = refl
no_definition f gate n h = absurd (true≢false h)

no_row : (n : PropNode) (var : ℕ) → is_gate n ≡ false → rows_of n var ≡ []
no_row (Not a) var h = refl
no_row n var h = absurd (true≢false h)

pub gate_literal : (table : List (Option Literal)) (vars : ℕ) (n : PropNode) → is_gate n ≡ true → literal_in table vars n ≡ literal (vars + 1) true
gate_literal table vars (Not a) h = absurd (false≢true h)
gate_literal table vars n h = refl

module _ (nodes : List PropNode) (has : ℕ → Bool) where
  pub clauses_to : ℕ → List (List Literal)
  clauses_to k = flat_map (definition_at nodes (literal_of nodes has)) (gates nodes has k)

  pub rows_to : ℕ → List AtomVar
  rows_to k = flat_map (rows_at nodes (literal_of nodes has)) (gates nodes has k)

  -- what the table has for a node
  abbrev pub entry : ℕ → Option Literal
  entry id = cond (has id) (Some (literal_of nodes has id)) None

  pub record IsStage (k : ℕ) (parts : PartialForm) : Type 0 where
    pub size : length parts.literals.items ≡ k
    pub table : (id : ℕ) → id < k → get_or parts.literals.items id None ≡ entry id
    pub counted : parts.vars ≡ length (gates nodes has k)
    pub defined : AreClauses (clauses_to k) parts.clauses.items
    pub rows : parts.atoms.items ≡ rows_to k

  -- a list that is made node by node
  flat-more : {X : Type 0} (f : ℕ → List X) (k : ℕ) → has_variable nodes has k ≡ true → flat_map f (gates nodes has (suc k)) ≡ flat_map f (gates nodes has k) ++ f k
  flat-more f k e =
      ap (λ b. flat_map f (cond b (gates nodes has k ++ k ∷ []) (gates nodes has k))) e
      ∙ flat_map-append f (gates nodes has k) (k ∷ [])
      ∙ ap (λ xs. flat_map f (gates nodes has k) ++ xs) (append-nil (f k))

  flat-same : {X : Type 0} (f : ℕ → List X) (k : ℕ) → has_variable nodes has k ≡ false → flat_map f (gates nodes has (suc k)) ≡ flat_map f (gates nodes has k)
  flat-same f k e = ap (λ b. flat_map f (cond b (gates nodes has k ++ k ∷ []) (gates nodes has k))) e

  table_more : (k : ℕ) (table : List (Option Literal)) (last : Option Literal) → length table ≡ k → ((id : ℕ) → id < k → get_or table id None ≡ entry id) → last ≡ entry k
      → (id : ℕ) → id < suc k → get_or (table ++ last ∷ []) id None ≡ entry id
  table_more k table last size before is id low =
      elim (cases_eq id k) [
        | inl same ↦ subst (λ m. get_or (table ++ last ∷ []) m None ≡ entry m) (sym same) (get_or_push table last None k size ∙ is)
        | inr other ↦
            let short : id < length table = omega (arith, other) in
            get_or_append_left table (last ∷ []) None id short ∙ before id (omega (arith, other))
      ]

  -- a node that has no literal
  pub stage_skip : (k : ℕ) (old new : PartialForm) → has k ≡ false → IsStage k old → new.literals.items ≡ old.literals.items ++ None ∷ [] → new.vars ≡ old.vars → new.clauses.items ≡ old.clauses.items → new.atoms.items ≡ old.atoms.items → IsStage (suc k) new
  unfolding clauses_to rows_to
  stage_skip k old new off is literals vars clauses atoms =
      let none : has_variable nodes has k ≡ false = ap (λ b. b && is_gate (node_at nodes k)) off in
      record {
        size = ap length literals ∙ length_push old.literals.items None ∙ omega (arith, is.size);
        table = subst (λ t. (id : ℕ) → id < suc k → get_or t id None ≡ entry id) (sym literals)
            (table_more k old.literals.items None is.size is.table (ap (λ b. cond b (Some (literal_of nodes has k)) None) (sym off)));
        counted = vars ∙ is.counted ∙ ap (λ b. length (cond b (gates nodes has k ++ k ∷ []) (gates nodes has k))) (sym none);
        defined = subst (λ ds. AreClauses ds new.clauses.items) (sym (flat-same (definition_at nodes (literal_of nodes has)) k none)) (subst (AreClauses (clauses_to k)) (sym clauses) is.defined);
        rows = atoms ∙ is.rows ∙ sym (flat-same (rows_at nodes (literal_of nodes has)) k none);
      }

  -- where a node has a literal, the table has it
  table_has : (k : ℕ) (table : List (Option Literal)) → ((id : ℕ) → id < k → get_or table id None ≡ entry id) → (id : ℕ) → id < k → has id ≡ true → get_or table id None ≡ Some (literal_of nodes has id)
  table_has k table before id low on = before id low ∙ ap (λ b. cond b (Some (literal_of nodes has id)) None) on

  literal_in_is : IsGraph nodes → (k vars : ℕ) (table : List (Option Literal)) (n : PropNode) → StandsAt nodes k n → vars ≡ length (gates nodes has k) → All (λ c. known table c ≡ literal_of nodes has c) (children n) → literal_in table vars n ≡ literal_of nodes has k
  literal_in_is graph k vars table n at counted same = by n same ∙ sym (literal-node nodes has k n graph at)
    where
      by : (m : PropNode) → All (λ c. known table c ≡ literal_of nodes has c) (children m) → literal_in table vars m ≡ literal_for nodes has k m
      by (Not a) h = ap negate (h 0 a (omega arith))
      by m h = ap (λ v. literal (v + 1) true) counted

  -- there are no more variables than nodes
  pub vars_at_most : (k : ℕ) (parts : PartialForm) → IsStage k parts → parts.vars ≤ k
  vars_at_most k parts is = omega (arith, is.counted, length-gates nodes has k)

  pub stage_start : (parts : PartialForm) → parts.literals.items ≡ [] → parts.vars ≡ 0 → parts.clauses.items ≡ [] → parts.atoms.items ≡ [] → IsStage 0 parts
  unfolding clauses_to rows_to
  stage_start parts literals vars clauses atoms = record {
    size = ap length literals;
    table = λ id low. absurd (omega arith);
    counted = vars;
    defined = clauses;
    rows = atoms;
  }

  module _ (root : ℕ) (is_reached : AreReached nodes root has) where
    -- the children of a node with a literal have literals
    children_have : (k : ℕ) (n : PropNode) → has k ≡ true → StandsAt nodes k n → All (λ c. has c ≡ true) (children n)
    children_have k n on at j d h = (is_reached.which (get_or (children n) j d)).1 (reached_children nodes root k n ((is_reached.which k).0 on) at j d h)

    known_children : (k : ℕ) (table : List (Option Literal)) (n : PropNode) → has k ≡ true → StandsAt nodes k n
        → ((id : ℕ) → id < k → get_or table id None ≡ entry id) → All (λ c. known table c ≡ literal_of nodes has c) (children n)
    known_children k table n on at before j d h =
        ap (λ o. unwrap_or o (literal 0 true)) (table_has k table before (get_or (children n) j d) (is_reached.graph k n at j d h) (children_have k n on at j d h))

    pub children_known : (k : ℕ) (parts : PartialForm) (n : PropNode) → has k ≡ true → StandsAt nodes k n → IsStage k parts → AreKnown parts.literals.items (children n)
    children_known k parts n on at is j d h =
        ap is_some (table_has k parts.literals.items is.table (get_or (children n) j d) (is_reached.graph k n at j d h) (children_have k n on at j d h))

    pub root_known : (parts : PartialForm) → IsStage (length nodes) parts → get_or parts.literals.items root None ≡ Some (literal_of nodes has root)
    root_known parts is = table_has (length nodes) parts.literals.items is.table root is_reached.below ((is_reached.which root).1 Itself)

    -- a node that has a literal
    pub stage_add : (k : ℕ) (n : PropNode) (old new : PartialForm) → has k ≡ true → StandsAt nodes k n → IsStage k old → AddsNode old n new → IsStage (suc k) new
    unfolding clauses_to rows_to
    stage_add k n old new on at is adds =
        let same = known_children k old.literals.items n on at is.table in
        let mine : literal_in old.literals.items old.vars n ≡ literal_of nodes has k = literal_in_is is_reached.graph k old.vars old.literals.items n at is.counted same in
        let node_is : node_at nodes k ≡ n = get_or_from_slice_get nodes k n True at in
        let added = adds.clauses in
        let made : definition (known old.literals.items) (literal_in old.literals.items old.vars n) n ≡ definition_at nodes (literal_of nodes has) k =
        definition_same (known old.literals.items) (literal_of nodes has) (literal_in old.literals.items old.vars n) n same
        ∙ (λ i. definition (literal_of nodes has) (mine i) n)
        ∙ ap (definition (literal_of nodes has) (literal_of nodes has k)) (sym node_is) in
        let variable : has_variable nodes has k ≡ is_gate n = (λ i. on i && is_gate (node_is i)) in
        let size : length new.literals.items ≡ suc k = ap length adds.literals ∙ length_push old.literals.items _ ∙ omega (arith, is.size) in
        let table : (id : ℕ) → id < suc k → get_or new.literals.items id None ≡ entry id =
        subst (λ t. (id : ℕ) → id < suc k → get_or t id None ≡ entry id) (sym adds.literals)
        (table_more k old.literals.items (Some (literal_in old.literals.items old.vars n)) is.size is.table (ap Some mine ∙ ap (λ b. cond b (Some (literal_of nodes has k)) None) (sym on))) in
        elim (cases_Bool (is_gate n)) [
          | inl gate ↦
              let there : has_variable nodes has k ≡ true = variable ∙ gate in
              let number : (literal_of nodes has k).var ≡ old.vars + 1 = ap (λ (l : Literal). l.var) (sym mine ∙ gate_literal old.literals.items old.vars n gate) in
              record {
                size = size;
                table = table;
                counted = adds.vars ∙ ap (λ b. old.vars + cond b 1 0) gate ∙ ap (λ m. m + 1) is.counted ∙ sym (length_push (gates nodes has k) k)
                    ∙ ap (λ b. length (cond b (gates nodes has k ++ k ∷ []) (gates nodes has k))) (sym there);
                defined = subst (λ ds. AreClauses ds new.clauses.items) (sym (flat-more (definition_at nodes (literal_of nodes has)) k there))
                    (subst (AreClauses (clauses_to k ++ definition_at nodes (literal_of nodes has) k)) (sym added.1)
                    (AreClauses-append (clauses_to k) (definition_at nodes (literal_of nodes has) k) old.clauses.items added.0 is.defined
                    (subst (λ ds. AreClauses ds added.0) made added.2)));
                rows = adds.atoms ∙ (λ i. is.rows i ++ rows_of n (old.vars + 1)) ∙ (λ i. rows_to k ++ rows_of (sym node_is i) (sym number i))
                    ∙ sym (flat-more (rows_at nodes (literal_of nodes has)) k there);
              }
          | inr other ↦
              let none : has_variable nodes has k ≡ false = variable ∙ other in
              let nothing : added.0 ≡ [] = subst (λ ds. AreClauses ds added.0) (no_definition (known old.literals.items) (literal_in old.literals.items old.vars n) n other) added.2 in
              let stays : new.clauses.items ≡ old.clauses.items = added.1 ∙ ap (λ xs. old.clauses.items ++ xs) nothing ∙ append-nil old.clauses.items in
              record {
                size = size;
                table = table;
                counted = adds.vars ∙ ap (λ b. old.vars + cond b 1 0) other ∙ omega (arith, is.counted)
                    ∙ ap (λ b. length (cond b (gates nodes has k ++ k ∷ []) (gates nodes has k))) (sym none);
                defined = subst (λ ds. AreClauses ds new.clauses.items) (sym (flat-same (definition_at nodes (literal_of nodes has)) k none)) (subst (AreClauses (clauses_to k)) (sym stays) is.defined);
                rows = adds.atoms ∙ ap (λ xs. old.atoms.items ++ xs) (no_row n (old.vars + 1) other) ∙ append-nil old.atoms.items ∙ is.rows
                    ∙ sym (flat-same (rows_at nodes (literal_of nodes has)) k none);
              }
        ]

    -- the parts of all nodes, with the root's unit clause, are Tseitin's form
    pub IsTseitin-stage : (parts : PartialForm) (clauses : List (List Literal)) → IsStage (length nodes) parts → Pushes parts.clauses.items ((literal_of nodes has root ∷ []) ∷ []) clauses → IsTseitin nodes root parts.vars clauses parts.atoms.items
    unfolding clauses_to rows_to
    IsTseitin-stage parts clauses is unit = record {
      gates = gates nodes has (length nodes);
      literal_of = literal_of nodes has;
      are_gates = λ id. (
        λ there.
            let found = gates_have nodes has (length nodes) id there in
            let both = and_parts (has id) _ found.1 in
            (node_at nodes id, slice_get-get_or nodes id True found.0, both.1, (is_reached.which id).0 both.0),
        λ gate.
            let short = slice_get_within nodes id gate.0 gate.1 in
            let same : node_at nodes id ≡ gate.0 = get_or_from_slice_get nodes id gate.0 True gate.1 in
            have_gates nodes has (length nodes) id short (and_from _ _ ((is_reached.which id).1 gate.3) (ap is_gate same ∙ gate.2)),
      );
      counted = is.counted;
      numbered = λ k low. gates_numbered nodes has is_reached.graph (length nodes) k 0 (omega arith) low;
      negated = λ id a up at. literal-node nodes has id (Not a) is_reached.graph at;
      defined = subst (AreClauses (clauses_to (length nodes) ++ (literal_of nodes has root ∷ []) ∷ [])) (sym unit.1) (AreClauses-append (clauses_to (length nodes)) ((literal_of nodes has root ∷ []) ∷ []) parts.clauses.items unit.0 is.defined unit.2);
      rows_are = is.rows;
    }
