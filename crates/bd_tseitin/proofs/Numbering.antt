-- The literal of each node, and the gates among the nodes that have literals.
use Rattle.std.proofs.Common.{◌≡◌, ℕ, ◌<◌, ◌≤◌, ◌+◌, Bool, true, ◌&&◌, cond, List, [], ◌∷◌, ◌++◌, length, get_or, take, drop, Contains, refl, ap, sym, ◌∙◌, subst, inl, inr, zero, suc, arith}
use Rattle.std.proofs.lemmas.Bool.{false≢true, and_parts, cases_Bool, cases_lt, cases_eq}
use Rattle.std.proofs.lemmas.List.{length-take-le, get_or_append_left, get_or_push, length_push}
use Rattle.std.proofs.lemmas.List.Elements.{Contains-push, Contains-append_left, Contains-push_cases}
use Rattle.std.proofs.lemmas.Option.{slice_get_within, slice_get-get_or}
use Rattle.bd_list.specs.Grown.{grown}
use Rattle.bd_list.proofs.Grown.{get-grown_front, get-grown_at, length-grown}
use Rattle.bd_prop.specs.declared.node.PropNode.{PropNode}
use Rattle.bd_prop.specs.declared.node.PropNode.TheVariants.{True, Not}
use Rattle.bd_prop.specs.Form.{node_at}
use Rattle.bd_prop.specs.Graph.{IsGraph, StandsAt, IsBelow}
use Rattle.bd_prop.proofs.Truths.{split_at}
use Rattle.bd_cnf.specs.Literal.{Literal, literal, negate}
use Rattle.bd_tseitin.specs.Definition.{is_gate}

module _ (nodes : List PropNode) (has : ℕ → Bool) where
  abbrev pub has_variable : ℕ → Bool
  has_variable id = has id && is_gate (node_at nodes id)

  -- the gates below k
  abbrev pub gates : ℕ → List ℕ
  gates zero = []
  gates (suc k) = cond (has_variable k) (gates k ++ k ∷ []) (gates k)

  abbrev pub numbered_literal : List Literal → PropNode → Literal
  numbered_literal done (Not a) = negate (get_or done a (literal 0 true))
  numbered_literal done _ = literal (length (gates (length done)) + 1) true

  -- the literal of a node: that of its number among the gates, or the negated literal of its child
  pub literal_of : ℕ → Literal
  literal_of id = get_or (grown numbered_literal [] nodes) id (literal 0 true)

  abbrev pub literal_for : ℕ → PropNode → Literal
  literal_for id (Not a) = negate (literal_of a)
  literal_for id _ = literal (length (gates id) + 1) true

  -- from the literals of the nodes before it
  literal_step : (id : ℕ) (front rest : List PropNode) (m : PropNode) → nodes ≡ front ++ rest → length front ≡ id → IsBelow id m → numbered_literal (grown numbered_literal [] front) m ≡ literal_for id m
  unfolding literal_of
  literal_step id front rest (Not a) split size low =
      let below : a < id = low 0 a (omega arith) in
      let inside : a < length front = omega arith in
      ap negate (sym (ap (λ ns. get_or (grown numbered_literal [] ns) a (literal 0 true)) split ∙ get-grown_front numbered_literal front rest a (literal 0 true) inside))
  literal_step id front rest m split size low = ap (λ k. literal (length (gates k) + 1) true) (length-grown numbered_literal [] front ∙ omega arith)

  pub literal-node : (id : ℕ) (n : PropNode) → IsGraph nodes → StandsAt nodes id n → literal_of id ≡ literal_for id n
  unfolding literal_of
  literal-node id n graph at =
      let d : Literal = literal 0 true in
      let front : List PropNode = take id nodes in
      let rest : List PropNode = drop (id + 1) nodes in
      let split : nodes ≡ front ++ n ∷ rest = split_at nodes id n at in
      let size : length front ≡ id = length-take-le id nodes (omega (arith, slice_get_within nodes id n at)) in
      let made = get-grown_at numbered_literal front n rest d in
      let P : ℕ → Type 0 = λ k. get_or (grown numbered_literal [] (front ++ n ∷ rest)) k d ≡ numbered_literal (grown numbered_literal [] front) n in
      ap (λ ns. get_or (grown numbered_literal [] ns) id d) split ∙ subst P size made ∙ literal_step id front (n ∷ rest) n split size (graph id n at)

  -- the gates below k are those nodes below k that have a variable
  pub gates_have : (k id : ℕ) → Contains (gates k) id → (id < k) × (has_variable id ≡ true)
  gates_have zero id (j, inside, at) = absurd (omega arith)
  gates_have (suc k) id there =
      elim (cases_Bool (has_variable k)) [
        | inl e ↦
            elim (Contains-push_cases (gates k) k id (subst (λ b. Contains (cond b (gates k ++ k ∷ []) (gates k)) id) e there)) [
              | inl old ↦ let found = gates_have k id old in (omega arith, found.1)
              | inr same ↦ (omega arith, ap has_variable (sym same) ∙ e)
            ]
        | inr e ↦ let found = gates_have k id (subst (λ b. Contains (cond b (gates k ++ k ∷ []) (gates k)) id) e there) in (omega arith, found.1)
      ]

  pub have_gates : (k id : ℕ) → id < k → has_variable id ≡ true → Contains (gates k) id
  have_gates zero id low e = absurd (omega arith)
  have_gates (suc k) id low e =
      elim (cases_eq id k) [
        | inl same ↦ subst (λ b. Contains (cond b (gates k ++ k ∷ []) (gates k)) id) (sym (ap has_variable (sym same) ∙ e)) (subst (Contains (gates k ++ k ∷ [])) (sym same) (Contains-push (gates k) k))
        | inr other ↦
            let old : Contains (gates k) id = have_gates k id (omega (arith, other)) e in
            elim (cases_Bool (has_variable k)) [
              | inl f ↦ subst (λ b. Contains (cond b (gates k ++ k ∷ []) (gates k)) id) (sym f) (Contains-append_left (gates k) (k ∷ []) id old)
              | inr f ↦ subst (λ b. Contains (cond b (gates k ++ k ∷ []) (gates k)) id) (sym f) old
            ]
      ]

  pub length-gates : (k : ℕ) → length (gates k) ≤ k
  length-gates zero = omega arith
  length-gates (suc k) =
      let before : length (gates k) ≤ k = length-gates k in
      let pushed : length (gates k ++ k ∷ []) ≡ length (gates k) + 1 = length_push (gates k) k in
      elim (cases_Bool (has_variable k)) [
        | inl e ↦ subst (λ b. length (cond b (gates k ++ k ∷ []) (gates k)) ≤ suc k) (sym e) (omega arith)
        | inr e ↦ subst (λ b. length (cond b (gates k ++ k ∷ []) (gates k)) ≤ suc k) (sym e) (omega arith)
      ]

  -- a gate's literal is that of its number
  literal-gate : IsGraph nodes → (id : ℕ) → id < length nodes → has_variable id ≡ true → literal_of id ≡ literal (length (gates id) + 1) true
  literal-gate graph id inside e = literal-node id (node_at nodes id) graph (slice_get-get_or nodes id True inside) ∙ by (node_at nodes id) (and_parts (has id) _ e).1
    where
      by : (n : PropNode) → is_gate n ≡ true → literal_for id n ≡ literal (length (gates id) + 1) true
      by (Not a) off = absurd (false≢true off)
      by n on = refl

  pub gates_numbered : IsGraph nodes → (k j d : ℕ) → k ≤ length nodes → j < length (gates k) → literal_of (get_or (gates k) j d) ≡ literal (j + 1) true
  gates_numbered graph zero j d h low = absurd (omega arith)
  gates_numbered graph (suc k) j d h low =
      let Q : List ℕ → Type 0 = λ gs. literal_of (get_or gs j d) ≡ literal (j + 1) true in
      elim (cases_Bool (has_variable k)) [
        | inl e ↦
            let pushed : length (gates k ++ k ∷ []) ≡ length (gates k) + 1 = length_push (gates k) k in
            let inside : j < length (gates k ++ k ∷ []) = subst (λ b. j < length (cond b (gates k ++ k ∷ []) (gates k))) e low in
            subst (λ b. Q (cond b (gates k ++ k ∷ []) (gates k))) (sym e)
            (elim (cases_lt j (length (gates k))) [
              | inl before ↦ ap literal_of (get_or_append_left (gates k) (k ∷ []) d j before) ∙ gates_numbered graph k j d (omega arith) before
              | inr after ↦
                  let last : length (gates k) ≡ j = omega arith in
                  ap literal_of (get_or_push (gates k) k d j last) ∙ literal-gate graph k (omega arith) e ∙ ap (λ m. literal (m + 1) true) last
            ])
        | inr e ↦ subst (λ b. Q (cond b (gates k ++ k ∷ []) (gates k))) (sym e) (gates_numbered graph k j d (omega arith) (subst (λ b. j < length (cond b (gates k ++ k ∷ []) (gates k))) e low))
      ]
