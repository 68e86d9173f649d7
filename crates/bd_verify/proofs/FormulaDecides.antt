-- What the formula of a flat one decides.
use Rattle.std.proofs.Common.{◌≡◌, ◌↔◌, ◌⊎◌, ℕ, ◌<◌, Bool, true, false, not, IsTrue, inl, inr, List, [], ◌∷◌, length, get_or, take, drop, slice_get, Option, Some, All, Contains, refl, ap, sym, ◌∙◌, subst, arith, eqb}
use Rattle.std.specs.Prelude.{if◌then◌else◌}
use Rattle.std.proofs.lemmas.Bool.{cases_Bool, cases_order, eq-eqb, eqb-true, false_from_ne_true, ne_eqb, not-true, true≢false}
use Rattle.std.proofs.lemmas.List.{get_or-map, take-append-drop}
use Rattle.std.proofs.lemmas.List.Elements.{All-cons, All-nil, Contains-append_left}
use Rattle.std.proofs.lemmas.Option.{same_Some}
use Rattle.bd_model.specs.DesignView.{DesignView}
use Rattle.bd_model.specs.Lawful.{IsConstant as IsConstantOf, IsLawfulGroup}
use Rattle.bd_model.specs.Fits.{result_sort}
use Rattle.bd_model.specs.Value.{scalar_word}
use Rattle.bd_model.specs.declared.design.Sort.TheVariants as sort
use Rattle.bd_model.specs.declared.design.Symbol.{Symbol}
use Rattle.bd_model.specs.declared.table.Scalar.{Scalar}
use Rattle.bd_symbolic.specs.Widened.{HasLawfulSymbols}
use Rattle.bd_terms.specs.declared.node.Node.{Node}
use Rattle.bd_terms.specs.declared.node.Sym.TheVariants as symbol
use Rattle.bd_terms.specs.Denotation.{truth}
use Rattle.bd_terms.specs.Graph.{Use, uses}
use Rattle.bd_terms.proofs.Places.{AllByRecursion-get}
use Rattle.bd_function.specs.declared.flat.FlatRow.{FlatRow}
use Rattle.bd_function.specs.declared.flat.FlatSym.{FlatSym}
use Rattle.bd_function.specs.Flat.{IsFlat, under}
use Rattle.bd_prop.specs.declared.atom.Atom.{Atom}
use Rattle.bd_prop.specs.declared.node.PropNode.{PropNode}
use Rattle.bd_prop.specs.declared.node.PropNode.TheVariants.{Not}
use Rattle.bd_prop.specs.Form.{IsFormBelow, node_at, not_form, not_form_of}
use Rattle.bd_prop.specs.Graph.{IsGraph as IsPropGraph}
use Rattle.bd_prop.specs.Truth.{truth_at}
use Rattle.bd_prop.proofs.GatheredTruth.{truth-gathered}
use Rattle.bd_prop.proofs.Forms.{IsGraph-form, below_negation, truth-form, truth-not, within-form}
use Rattle.bd_cnf.specs.Clause.{Satisfies}
use Rattle.bd_cnf.specs.Problem.{AreWithin, Problem}
use Rattle.bd_transitive.specs.declared.graph.Edge.{Edge}
use Rattle.bd_transitive.specs.declared.graph.Order.{Order}
use Rattle.bd_transitive.specs.Edges.{IsEnd, JoinsAt}
use Rattle.bd_transitive.specs.Orders.{IsOrder}
use Rattle.bd_transitive.specs.Triangle.{AgreesWithClasses, value_at}
use Rattle.bd_transitive.proofs.Ends.{joins_at, joins_at-get, joins_at-within, no_edge}
use Rattle.bd_transitive.proofs.Meeting.{classes_meet}
use Rattle.bd_tseitin.specs.declared.row.AtomVar.{AtomVar}
use Rattle.bd_tseitin.specs.Rows.{Agree, AreRows}
use Rattle.bd_equality.specs.Edges.{IsApart, IsConstant, IsEdge, IsVertex, ReachesEdge}
use Rattle.bd_equality.specs.Encoding.{Encodes, EncodesByEdges, atom_value, has_mark}
use Rattle.bd_lift.specs.Decoded.{variable_use}
use Rattle.bd_lift.specs.Lifted.{AreKnown, TellsApart}
use Rattle.bd_lift.proofs.Known.{known-function}
use Rattle.bd_verify.specs.Kept.{IsDenied, IsFormulaOf}
use Rattle.bd_verify.specs.inner.Edges.{MeansEdges, edge_value, edge_values}
use Rattle.bd_verify.specs.inner.Questions.{Formulates, IsAdmitted, KeepsWordsApart}
use Rattle.bd_tseitin.proofs.Laws.{AreRows-form, denoted, denoted_agrees, denoted_satisfies, satisfied_holds, within_form}
use Rattle.bd_verify.proofs.EdgesMean.{edges-mean}
use Rattle.bd_transitive.proofs.OrderSpans.{at_from_Contains, Contains-from_at, joins_at_comm}

-- the value of an edge by its number
pub value-at : (value : Atom → Bool) (edges : List Edge) (e : ℕ) (d : Edge) → e < length edges → value_at (edge_values value edges) e ≡ edge_value value (get_or edges e d)
value-at value edges e d lt = get_or-map (edge_value value) edges e d false lt

-- values of variables are classes that agree with the edges
pub words-agree : (v : ℕ → Scalar) (edges : List Edge) → AgreesWithClasses edges (value_at (edge_values (atom_value v) edges)) (λ x. scalar_word (v x))
words-agree v edges e a b j = by_joins (joins_at-get edges e a b no_edge j) where
  edge : Edge
  edge = get_or edges e no_edge

  is : value_at (edge_values (atom_value v) edges) e ≡ eqb (scalar_word (v (get_or edges e no_edge).from)) (scalar_word (v (get_or edges e no_edge).to))
  is = value-at (atom_value v) edges e no_edge (joins_at-within edges e a b j)

  by_joins : (((get_or edges e no_edge).from ≡ a) × ((get_or edges e no_edge).to ≡ b)) ⊎ (((get_or edges e no_edge).from ≡ b) × ((get_or edges e no_edge).to ≡ a))
      → IsTrue (value_at (edge_values (atom_value v) edges) e) ↔ (scalar_word (v a) ≡ scalar_word (v b))
  by_joins (inl (p, q)) = (
    λ t. ap (λ x. scalar_word (v x)) (sym p) ∙ eqb-true _ _ (sym is ∙ t) ∙ ap (λ x. scalar_word (v x)) q,
    λ h. is ∙ eq-eqb _ _ (ap (λ x. scalar_word (v x)) p ∙ h ∙ ap (λ x. scalar_word (v x)) (sym q)),
  )
  by_joins (inr (p, q)) = (
    λ t. sym (ap (λ x. scalar_word (v x)) (sym p) ∙ eqb-true _ _ (sym is ∙ t) ∙ ap (λ x. scalar_word (v x)) q),
    λ h. is ∙ eq-eqb _ _ (ap (λ x. scalar_word (v x)) p ∙ sym h ∙ ap (λ x. scalar_word (v x)) (sym q)),
  )

-- an edge stands at a number, where it has its value
pub record StandsIn (edges : List Edge) (value : Atom → Bool) (edge : Edge) : Type 0 where
  pub at : ℕ
  pub joins : JoinsAt edges at edge.from edge.to
  pub is : value_at (edge_values value edges) at ≡ edge_value value edge

pub stands-in : (edges : List Edge) (value : Atom → Bool) (edge : Edge) → Contains edges edge → StandsIn edges value edge
stands-in edges value edge p = record {
  at = p.0;
  joins = joins_at edges p.0 edge.from edge.to edge p.1 (inl (ap (λ (e : Edge). e.from) p.2, ap (λ (e : Edge). e.to) p.2));
  is = value-at value edges p.0 edge p.1 ∙ ap (edge_value value) p.2;
}

-- an end of edges between vertices is a vertex
pub end-vertex : (nodes : List Node) (marked : Option (List ℕ)) (edges : List Edge) → All (IsEdge nodes marked) edges → (x : ℕ) → IsEnd edges x → IsVertex nodes marked x
end-vertex nodes marked edges vertices x (y, (e, j)) =
    let ends : IsEdge nodes marked (get_or edges e no_edge) = vertices e no_edge (joins_at-within edges e x y j) in
    elim (joins_at-get edges e x y no_edge j) [
      | inl h ↦ subst (IsVertex nodes marked) h.0 ends.from
      | inr h ↦ subst (IsVertex nodes marked) h.1 ends.to
    ]

-- the edges of the first part are edges
pub ordered-by : (n : ℕ) (all edges : List Edge) → take n all ≡ edges → (edge : Edge) → Contains edges edge → Contains all edge
ordered-by n all edges given edge p =
    subst (λ l. Contains l edge) (take-append-drop n all) (Contains-append_left (take n all) (drop n all) edge (subst (λ l. Contains l edge) (sym given) p))

none-long : {X : Type 0} (xs : List X) → length xs ≡ 0 → xs ≡ []
none-long [] e = refl
none-long (x ∷ xs) e = absurd (omega (arith, e))

module _ (d : DesignView) (nodes : List Node) (root : ℕ) (syms : List FlatSym) (marked : Option (List ℕ)) (lawful : HasLawfulSymbols d) (known : AreKnown d nodes syms) (flat : IsFlat nodes root syms) where
  -- the first application of a constant has its vertex, unless it is marked
  constant-of : (f : ℕ) (s : FlatSym) (q : FlatRow) → IsConstantOf d f → Contains syms s → s.sym ≡ symbol.Function f → slice_get s.rows 0 ≡ Some q → has_mark marked q.var ≡ false → IsConstant nodes syms marked f q.var
  constant-of f s q c p e first unmarked =
      let k = known.each s p q (Contains-from_at s.rows 0 q first) in
      let is = known-function d k.applied f k.known (k.same ∙ e) in
      let same : is.0 ≡ c.0 = same_Some is.0 c.0 (sym is.1 ∙ c.1) in
      let kind : k.applied.sort ≡ sort.Word = ap (λ (u : Use). u.sort) is.2 ∙ ap result_sort same ∙ ap (λ (b : Bool). if b then sort.Bool else sort.Word) c.3 in
      let none : length q.args ≡ 0 = k.arity ∙ ap (λ (u : Use). u.arity) is.2 ∙ ap (λ (y : Symbol). y.arity) same ∙ c.2 in
      record {
        holder = s;
        row = q;
        listed = p;
        same = e;
        first = first;
        plain = none-long q.args none;
        variable = refl;
        vertex = record { variable = subst (λ z. Contains (uses nodes) (variable_use q.var z)) kind k.variable; unmarked = unmarked };
      }

  -- the edges that are kept apart tell constants apart, where no marked variable is the end of an edge
  pub tells-apart : (order : Order) (value : Atom → Bool) → ((x : ℕ) → IsEnd order.edges x → IsVertex nodes marked x)
      → ((edge : Edge) → IsApart nodes syms d.distinct marked edge → Contains order.edges edge × (edge_value value edge ≡ false))
      → TellsApart d syms order (value_at (edge_values value order.edges))
  tells-apart order value ends false_at = record {
    apart = λ group p f g pf pg ne s t ps pt es et q r first second.
        let place = at_from_Contains d.distinct group p in
        let lawful_group : IsLawfulGroup d group = AllByRecursion-get (IsLawfulGroup d) d.distinct place.0 group lawful.distinct place.1 in
        let at_f = at_from_Contains group f pf in
        let at_g = at_from_Contains group g pg in
        elim (cases_Bool (has_mark marked q.var)) [
          | inl mark ↦ inr (inl (alone q.var mark))
          | inr unmarked ↦ elim (cases_Bool (has_mark marked r.var)) [
            | inl mark ↦ inr (inr (alone r.var mark))
            | inr unmarked' ↦
                let cf = constant-of f s q (AllByRecursion-get (IsConstantOf d) group at_f.0 f lawful_group.constants at_f.1) ps es first unmarked in
                let cg = constant-of g t r (AllByRecursion-get (IsConstantOf d) group at_g.0 g lawful_group.constants at_g.1) pt et second unmarked' in
                elim (cases_order q.var r.var) [
                  | inl same ↦
                      let one = (flat.different s t q r ps (Contains-from_at s.rows 0 q first) pt (Contains-from_at t.rows 0 r second) same).0 in
                      let bad : symbol.Function f ≡ symbol.Function g = sym es ∙ one ∙ et in
                      absurd (ne (function-number f g bad))
                  | inr (inl lt) ↦ inl (told (record { from = q.var; to = r.var }) (false_at (record { from = q.var; to = r.var })
                      (record { group = group; f = f; g = g; listed = p; has_f = pf; has_g = pg; from = cf; to = cg; below = lt })))
                  | inr (inr lt) ↦ inl (turned (record { from = r.var; to = q.var }) (false_at (record { from = r.var; to = q.var })
                      (record { group = group; f = g; g = f; listed = p; has_f = pg; has_g = pf; from = cg; to = cf; below = lt })))
                ]
          ]
        ];
  } where
    function-number : (m n : ℕ) → symbol.Function m ≡ symbol.Function n → m ≡ n
    function-number m n h = cc

    alone : (x : ℕ) → has_mark marked x ≡ true → IsEnd order.edges x → ⊥
    alone x mark end = true≢false (sym mark ∙ (ends x end).unmarked)

    told : (edge : Edge) → Contains order.edges edge × (edge_value value edge ≡ false) → (e : ℕ) × JoinsAt order.edges e edge.from edge.to × (value_at (edge_values value order.edges) e ≡ false)
    told edge h = let s = stands-in order.edges value edge h.0 in (s.at, s.joins, s.is ∙ h.1)

    turned : (edge : Edge) → Contains order.edges edge × (edge_value value edge ≡ false) → (e : ℕ) × JoinsAt order.edges e edge.to edge.from × (value_at (edge_values value order.edges) e ≡ false)
    turned edge h = let s = stands-in order.edges value edge h.0 in (s.at, joins_at_comm order.edges s.at edge.from edge.to s.joins, s.is ∙ h.1)

  module _ (prop : List PropNode) (prop_root : ℕ) (edges apart : List Edge) (by_value : Encodes nodes root marked prop prop_root) (by_edges : EncodesByEdges nodes root marked edges prop prop_root)
      (edges_are : (edge : Edge) → Contains edges edge ↔ (ReachesEdge prop prop_root edge ⊎ Contains apart edge)) (vertices : All (IsEdge nodes marked) edges)
      (apart_are : (edge : Edge) → Contains apart edge ↔ IsApart nodes syms d.distinct marked edge)
      (order : Order) (is_order : IsOrder order) (order_ends : (x : ℕ) → Contains order.vertices x ↔ IsEnd edges x) (given : take (length edges) order.edges ≡ edges)
      (old new : Problem) (old_rows rows : List AtomVar) (adds : MeansEdges order apart old old_rows new rows)
      (form-up : (value : Atom → Bool) → truth_at value prop prop_root ≡ false → (a : ℕ → Bool) × Satisfies a old.clauses × Agree a value old_rows)
      (form-down : (a : ℕ → Bool) (value : Atom → Bool) → Satisfies a old.clauses → Agree a value old_rows → truth_at value prop prop_root ≡ false) where
    ordered : (edge : Edge) → Contains edges edge → Contains order.edges edge
    ordered edge p = ordered-by (length edges) order.edges edges given edge p

    ends : (x : ℕ) → IsEnd order.edges x → IsVertex nodes marked x
    ends x end = end-vertex nodes marked edges vertices x ((order_ends x).0 (is_order.ends x end))

    up : (v : ℕ → Scalar) → KeepsWordsApart d nodes syms marked v → (IsTrue (truth (under v) nodes root) → ⊥) → (a : ℕ → Bool) × Satisfies a new.clauses
    up v apart_words fails =
        let value : Atom → Bool = atom_value v in
        let root_false : truth_at value prop prop_root ≡ false = by_value.denotes v apart_words.apart ∙ false_from_ne_true (truth (under v) nodes root) fails in
        let first = form-up value root_false in
        let more = adds.extends first.0 value first.2 first.1 in (
          more.0,
          (adds.means more.0 value more.1).1 (
            more.2,
            classes_meet order (value_at (edge_values value order.edges)) (λ x. scalar_word (v x)) (words-agree v order.edges),
            λ edge p. ne_eqb (scalar_word (v edge.from)) (scalar_word (v edge.to)) (apart_words.differ edge ((apart_are edge).0 p)),
          ),
        )

    down : (a : ℕ → Bool) (value : Atom → Bool) → Satisfies a new.clauses → Agree a value rows → IsAdmitted d nodes root syms marked order edges value
    down a value sat agree =
        let parts = (adds.means a value agree).0 sat in
        let root_false : truth_at value prop prop_root ≡ false = form-down a value parts.0 (adds.keeps a value agree) in
        record {
          triangles = parts.1;
          constants = tells-apart order value ends (λ edge is.
              let p : Contains apart edge = (apart_are edge).1 is in
              (ordered edge ((edges_are edge).1 (inr p)), parts.2 edge p));
          refutes = λ v apart_words agrees holds. true≢false (sym holds ∙ sym (by_edges.denotes value v apart_words agrees) ∙ root_false);
        }

    pub formulates : Formulates d nodes root syms marked order new rows
    formulates = record {
      is_order = is_order;
      ends = ends;
      given = edges;
      vertices = vertices;
      ordered = ordered;
      up = up;
      down = down;
    }

below-not : (nodes : List PropNode) (id : ℕ) → IsPropGraph nodes → id < length nodes → IsFormBelow (length nodes) (not_form nodes id)
below-not nodes id graph lt = by (node_at nodes id) refl where
  by : (n : PropNode) → node_at nodes id ≡ n → IsFormBelow (length nodes) (not_form_of id n)
  by (Not a) is = below_negation nodes id a graph lt is
  by n is = All-cons (λ c. c < length nodes) id [] lt (All-nil (λ c. c < length nodes))

-- Tseitin's clauses of the negated root are satisfied where the root is false
module _ (prop : List PropNode) (prop_root : ℕ) (first : Problem) (rows : List AtomVar) (graph : IsPropGraph prop) (inside : prop_root < length prop) (h : IsDenied prop prop_root first rows) where
  below : IsFormBelow (length prop) (not_form prop prop_root)
  below = below-not prop prop_root graph inside

  form_inside : h.root < length h.nodes
  form_inside = h.negation.inside

  form_graph : IsPropGraph h.nodes
  form_graph = h.negation.graph

  negated : (value : Atom → Bool) → truth_at value h.nodes h.root ≡ not (truth_at value prop prop_root)
  negated value =
      let n = h.negation in
      truth-gathered value n.negation n.negation_root h.nodes h.root (IsGraph-form prop (not_form prop prop_root) n.negation n.negation_root graph below n.negated) n.graph
      (within-form prop (not_form prop prop_root) n.negation n.negation_root below n.negated) n.gathered
      ∙ truth-form value prop (not_form prop prop_root) n.negation n.negation_root graph below n.negated ∙ truth-not value prop graph prop_root inside

  denied-up : (value : Atom → Bool) → truth_at value prop prop_root ≡ false → (a : ℕ → Bool) × Satisfies a first.clauses × Agree a value rows
  denied-up value root_false = (
    denoted h.nodes h.root first.vars first.clauses rows form_graph form_inside h.form value,
    denoted_satisfies h.nodes h.root first.vars first.clauses rows form_graph form_inside h.form value (negated value ∙ ap not root_false),
    denoted_agrees h.nodes h.root first.vars first.clauses rows form_graph form_inside h.form value,
  )

  denied-down : (a : ℕ → Bool) (value : Atom → Bool) → Satisfies a first.clauses → Agree a value rows → truth_at value prop prop_root ≡ false
  denied-down a value sat agree = not-true (truth_at value prop prop_root) (sym (negated value) ∙ satisfied_holds h.nodes h.root first.vars first.clauses rows form_graph form_inside h.form a value sat agree)

  denied-rows : AreRows first.vars rows
  denied-rows = AreRows-form h.nodes h.root first.vars first.clauses rows form_graph form_inside h.form h.different

  denied-within : AreWithin first.vars first.clauses
  denied-within = within_form h.nodes h.root first.vars first.clauses rows form_graph form_inside h.form

-- the formula of a flat one decides what the flat one does
pub formula-decides : (d : DesignView) (nodes : List Node) (root : ℕ) (syms : List FlatSym) (marked : Option (List ℕ)) (order : Order) (formula : Problem) (rows : List AtomVar)
    → HasLawfulSymbols d → AreKnown d nodes syms → IsFlat nodes root syms → IsFormulaOf d nodes root syms marked order formula rows → Formulates d nodes root syms marked order formula rows
formula-decides d nodes root syms marked order formula rows lawful known flat f =
    let e = f.encoded in
    let o = f.ordered in
    let h = f.denied in
    let means = edges-mean order f.apart f.first f.first_rows formula rows o.is_order f.adds
    (denied-rows f.prop f.prop_root f.first f.first_rows e.graph e.inside h) (denied-within f.prop f.prop_root f.first f.first_rows e.graph e.inside h) in
    formulates d nodes root syms marked lawful known flat f.prop f.prop_root f.edges f.apart e.denotes e.by_edges e.edges_are e.vertices e.apart_are order o.is_order o.vertices o.given
    f.first formula f.first_rows rows means (denied-up f.prop f.prop_root f.first f.first_rows e.graph e.inside h) (denied-down f.prop f.prop_root f.first f.first_rows e.graph e.inside h)
