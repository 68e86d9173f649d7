-- What a formula with its edges' clauses means.
use Rattle.std.proofs.Common.{◌≡◌, ◌↔◌, ℕ, ◌<◌, ◌≤◌, Bool, true, false, not, ◌&&◌, ◌||◌, cond, eqb, List, [], ◌∷◌, ◌++◌, All, Contains, length, get_or, map, refl, ap, sym, ◌∙◌, inl, inr, ⊎_elim, subst, arith}
use Rattle.std.proofs.lemmas.Bool.{and_from, and_parts, eq-eqb, eqb-true, ne_eqb, not-true, not_from_false}
use Rattle.std.proofs.lemmas.List.{get_or-map}
use Rattle.std.proofs.lemmas.List.Elements.{All-append, All-contains, All-contains_itself, All-cons, All-from_get_or, All-head, All-nil, All-tail, All-weaker, Contains-append_cases, Contains-append_right, Contains-get_or, Contains-push_cases}
use Rattle.std.proofs.lemmas.List.Folds.{list_all-append}
use Rattle.bd_cnf.specs.Clause.{Satisfies, clause_value, clauses_value}
use Rattle.bd_cnf.specs.Problem.{AreWithin, Problem}
use Rattle.bd_prop.specs.declared.atom.Atom.{Atom}
use Rattle.bd_transitive.specs.declared.graph.Edge.{Edge}
use Rattle.bd_transitive.specs.declared.graph.Order.{Order}
use Rattle.bd_transitive.specs.Orders.{IsOrder}
use Rattle.bd_transitive.specs.Triangle.{MeetsTriangles, edge_value as number_value, value_at}
use Rattle.bd_transitive.proofs.Ends.{no_edge}
use Rattle.bd_transitive.proofs.Meeting.{meets_alike}
use Rattle.bd_transitive.proofs.TriangleClauses.{clauses_meet}
use Rattle.bd_tseitin.specs.declared.row.AtomVar.{AtomVar}
use Rattle.bd_tseitin.specs.Rows.{Agree, AreRows}
use Rattle.bd_tseitin.proofs.Further.{clauses_value-same}
use Rattle.bd_verify.specs.Kept.{AddsEdges, AreVariables, IsFurtherRow, denial, edge_row}
use Rattle.bd_verify.specs.inner.Edges.{AreFalse, MeansEdges, edge_value, edge_values}
use Rattle.bd_verify.proofs.AddedRows.{AddsRows-keeps, one-row}

or-false : (b : Bool) → (b || false) ≡ b
or-false true = refl
or-false false = refl

-- the row of an edge gives it the value of its variable
row-value : (a : ℕ → Bool) (v : Atom → Bool) (rows : List AtomVar) (edge : Edge) (x : ℕ) → Agree a v rows → Contains rows (edge_row edge x) → edge_value v edge ≡ a x
row-value a v rows edge x agree has = All-contains (λ (r : AtomVar). v r.atom ≡ a r.var) rows (edge_row edge x) agree has

-- all variables are false
denials-value : (a : ℕ → Bool) (xs : List ℕ) → Satisfies a (map denial xs) → All (λ x. a x ≡ false) xs
denials-value a [] h = All-nil (λ x. a x ≡ false)
denials-value a (x ∷ xs) h =
    let both = and_parts (not (a x) || false) (clauses_value a (map denial xs)) h in
    All-cons (λ y. a y ≡ false) x xs (not-true (a x) (sym (or-false (not (a x))) ∙ both.0)) (denials-value a xs both.1)

value-denials : (a : ℕ → Bool) (xs : List ℕ) → All (λ x. a x ≡ false) xs → Satisfies a (map denial xs)
value-denials a [] h = refl
value-denials a (x ∷ xs) h =
    and_from (not (a x) || false) (clauses_value a (map denial xs)) (or-false (not (a x)) ∙ not_from_false (a x) (All-head (λ y. a y ≡ false) x xs h))
    (value-denials a xs (All-tail (λ y. a y ≡ false) x xs h))

-- the edges are false where their variables are
denied-false : (a : ℕ → Bool) (v : Atom → Bool) (rows : List AtomVar) (edges : List Edge) (vars : List ℕ) → Agree a v rows → AreVariables rows edges vars → Satisfies a (map denial vars) ↔ AreFalse v edges
denied-false a v rows edges vars agree h = (to, from) where
  same : (e : ℕ) (d : Edge) → e < length edges → edge_value v (get_or edges e d) ≡ a (get_or vars e 0)
  same e d lt = row-value a v rows (get_or edges e d) (get_or vars e 0) agree (h.each e d lt)

  to : Satisfies a (map denial vars) → AreFalse v edges
  to sat edge has =
      let size = h.counted in
      let lt = has.1 in
      ap (edge_value v) (sym has.2) ∙ same has.0 edge has.1 ∙ denials-value a vars sat has.0 0 (omega arith)

  from : AreFalse v edges → Satisfies a (map denial vars)
  from all_false = value-denials a vars (All-from_get_or (λ x. a x ≡ false) vars 0 (λ e lt.
      let size = h.counted in
      let inside : e < length edges = omega arith in
      sym (same e no_edge inside) ∙ all_false (get_or edges e no_edge) (Contains-get_or edges e no_edge inside)))

-- an assignment that gives the variables of rows the values of their atoms
chosen : (ℕ → Bool) → (Atom → Bool) → List AtomVar → ℕ → Bool
chosen a v [] x = a x
chosen a v (r ∷ rows) x = cond (eqb x r.var) (v r.atom) (chosen a v rows x)

chosen-other : (a : ℕ → Bool) (v : Atom → Bool) (n : ℕ) (rows : List AtomVar) → All (λ (r : AtomVar). n < r.var) rows → (x : ℕ) → x ≤ n → chosen a v rows x ≡ a x
unfolding chosen
chosen-other a v n [] above x low = refl
chosen-other a v n (r ∷ rows) above x low =
    let first : n < r.var = All-head (λ (s : AtomVar). n < s.var) r rows above in
    ap (λ b. cond b (v r.atom) (chosen a v rows x)) (ne_eqb x r.var (λ e. absurd (omega arith)))
    ∙ chosen-other a v n rows (All-tail (λ (s : AtomVar). n < s.var) r rows above) x low

chosen-row : (a : ℕ → Bool) (v : Atom → Bool) (rows : List AtomVar) → ((r s : AtomVar) → Contains rows r → Contains rows s → r.var ≡ s.var → r ≡ s)
    → (r : AtomVar) → Contains rows r → v r.atom ≡ chosen a v rows r.var
unfolding chosen
chosen-row a v [] one r has = absurd (let lt = has.1 in omega arith)
chosen-row a v (s ∷ rows) one r has = by (λ last. chosen-row a v rows rest r last) (eqb r.var s.var) refl where
  rest : (x y : AtomVar) → Contains rows x → Contains rows y → x.var ≡ y.var → x ≡ y
  rest x y p q = one x y (Contains-append_right (s ∷ []) rows x p) (Contains-append_right (s ∷ []) rows y q)

  by : (Contains rows r → v r.atom ≡ chosen a v rows r.var) → (b : Bool) → eqb r.var s.var ≡ b → v r.atom ≡ cond (eqb r.var s.var) (v s.atom) (chosen a v rows r.var)
  by later true e =
      let same : r ≡ s = one r s has (0, omega arith, refl) (eqb-true r.var s.var e) in
      ap (λ (x : AtomVar). v x.atom) same ∙ ap (λ b. cond b (v s.atom) (chosen a v rows r.var)) (sym e)
  by later false e = ⊎_elim
      (λ (first : Contains (s ∷ []) r).
      let here : s ≡ r = only s r first in
      absurd (differ (sym (eq-eqb r.var s.var (ap (λ (x : AtomVar). x.var) (sym here))) ∙ e)))
      (λ (last : Contains rows r). later last ∙ ap (λ b. cond b (v s.atom) (chosen a v rows r.var)) (sym e))
      (Contains-append_cases (s ∷ []) rows r has)
    where
      differ : true ≡ false → ⊥
      differ h = cc

      only : (x y : AtomVar) → Contains (x ∷ []) y → x ≡ y
      only x y h = elim (Contains-push_cases [] x y h) [ inl none ↦ absurd (let lt = none.1 in omega arith) | inr e ↦ e ]

module _ (order : Order) (apart : List Edge) (old : Problem) (rows : List AtomVar) (new : Problem) (rows' : List AtomVar) (is : IsOrder order) (adds : AddsEdges order apart old rows new rows') where
  number-value : (a : ℕ → Bool) (v : Atom → Bool) → Agree a v rows' → (e : ℕ) → e < length order.edges → number_value a adds.variables e ≡ value_at (edge_values v order.edges) e
  number-value a v agree e lt =
      sym (row-value a v rows' (get_or order.edges e no_edge) (get_or adds.variables e 0) agree (adds.named.each e no_edge lt))
      ∙ sym (get_or-map (edge_value v) order.edges e no_edge false lt)

  triangles-mean : (a : ℕ → Bool) (v : Atom → Bool) → Agree a v rows' → Satisfies a adds.triangles ↔ MeetsTriangles order (value_at (edge_values v order.edges))
  triangles-mean a v agree =
      let met = clauses_meet order is adds.variables adds.triangles adds.are a in
      let same = number-value a v agree in (
        λ h. meets_alike order (number_value a adds.variables) (value_at (edge_values v order.edges)) same (met.0 h),
        λ h. met.1 (meets_alike order (value_at (edge_values v order.edges)) (number_value a adds.variables) (λ e lt. sym (same e lt)) h),
      )

  parts : (a : ℕ → Bool) → clauses_value a new.clauses ≡ ((clauses_value a old.clauses && clauses_value a adds.triangles) && clauses_value a (map denial adds.denied))
  parts a =
      ap (clauses_value a) adds.clauses ∙ list_all-append (clause_value a) (old.clauses ++ adds.triangles) (map denial adds.denied)
      ∙ ap (λ b. b && clauses_value a (map denial adds.denied)) (list_all-append (clause_value a) old.clauses adds.triangles)

  above : All (λ (r : AtomVar). old.vars < r.var) adds.numbered.more
  above = All-weaker (IsFurtherRow order.edges old.vars rows) (λ (r : AtomVar). old.vars < r.var) (λ r h. h.after) adds.numbered.more adds.numbered.further

  pub edges-mean : AreRows old.vars rows → AreWithin old.vars old.clauses → MeansEdges order apart old rows new rows'
  edges-mean are within = record {
    keeps = λ a v h. All-weaker (Contains rows) (λ (r : AtomVar). v r.atom ≡ a r.var)
        (λ r has. All-contains (λ (s : AtomVar). v s.atom ≡ a s.var) rows' r h (AddsRows-keeps order.edges old.vars rows new.vars rows' adds.numbered r has)) rows (All-contains_itself rows);
    means = λ a v h. (
      λ sat.
          let last = and_parts (clauses_value a old.clauses && clauses_value a adds.triangles) (clauses_value a (map denial adds.denied)) (sym (parts a) ∙ sat) in
          let first = and_parts (clauses_value a old.clauses) (clauses_value a adds.triangles) last.0 in
          (first.0, (triangles-mean a v h).0 first.1, (denied-false a v rows' apart adds.denied h adds.named_apart).0 last.1),
      λ all.
          parts a
          ∙ and_from (clauses_value a old.clauses && clauses_value a adds.triangles) (clauses_value a (map denial adds.denied))
          (and_from (clauses_value a old.clauses) (clauses_value a adds.triangles) all.0 ((triangles-mean a v h).1 all.1)) ((denied-false a v rows' apart adds.denied h adds.named_apart).1 all.2),
    );
    extends = λ a v h sat.
        let more = adds.numbered.more in
        let b = chosen a v more in
        let low : (x : ℕ) → x ≤ old.vars → b x ≡ a x = chosen-other a v old.vars more above in
        let whole : Agree b v (rows ++ more) = All-append (λ (r : AtomVar). v r.atom ≡ b r.var) rows more
        (All-weaker (Contains rows) (λ (r : AtomVar). v r.atom ≡ b r.var)
        (λ r has. All-contains (λ (s : AtomVar). v s.atom ≡ a s.var) rows r h has ∙ sym (low r.var (All-contains (λ (s : AtomVar). s.var ≤ old.vars) rows r are.within has))) rows (All-contains_itself rows))
        (All-weaker (Contains more) (λ (r : AtomVar). v r.atom ≡ b r.var) (chosen-row a v more one) more (All-contains_itself more)) in
        (b, subst (Agree b v) (sym adds.numbered.grown) whole, clauses_value-same old.vars b a low old.clauses within ∙ sat);
  } where
    inside : (r : AtomVar) → Contains adds.numbered.more r → Contains rows' r
    inside r p = subst (λ l. Contains l r) (sym adds.numbered.grown) (Contains-append_right rows adds.numbered.more r p)

    one : (r s : AtomVar) → Contains adds.numbered.more r → Contains adds.numbered.more s → r.var ≡ s.var → r ≡ s
    one r s p q = one-row new.vars rows' adds.numbered.are r s (inside r p) (inside s q)
