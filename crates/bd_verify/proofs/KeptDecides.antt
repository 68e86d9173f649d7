-- What the kept formula decides, and a solver's answer to it.
use Rattle.std.proofs.Common.{◌≡◌, ◌↔◌, ℕ, zero, suc, Bool, true, false, cond, IsTrue, List, [], ◌∷◌, All, Contains, get_or, slice_get, Option, Some, unwrap_or, refl, ap, sym, ◌∙◌, arith, eqb}
use Rattle.std.specs.List.{list_any}
use Rattle.std.specs.Map.{lookup}
use Rattle.std.proofs.lemmas.Bool.{eq-eqb, eqb-true, false_from_ne_true, or_right, or_left, true≢false}
use Rattle.std.proofs.lemmas.List.Elements.{All-contains}
use Rattle.std.proofs.lemmas.Option.{same_Some, slice_get-get_or}
use Rattle.bd_model.specs.DesignView.{DesignView}
use Rattle.bd_model.specs.Value.{scalar_truth, scalar_word}
use Rattle.bd_model.specs.declared.case.Case.{Case}
use Rattle.bd_model.specs.declared.table.Scalar.{Scalar}
use Rattle.bd_symbolic.specs.Widened.{HasLawfulSymbols}
use Rattle.bd_symbolic.proofs.Widening.{lawful-symbols}
use Rattle.bd_terms.specs.declared.node.Node.{Node}
use Rattle.bd_terms.specs.Graph.{IsGraph}
use Rattle.bd_goal.specs.Claims.{Decides, case_world}
use Rattle.bd_goal.proofs.Deciding.{case_world-apart}
use Rattle.bd_function.specs.declared.flat.FlatSym.{FlatSym}
use Rattle.bd_function.specs.Flat.{IsFlat}
use Rattle.bd_prop.specs.declared.atom.Atom.{Atom}
use Rattle.bd_prop.specs.Values.{is_atom, truth_of}
use Rattle.bd_prop.proofs.Same.{atom_same}
use Rattle.bd_prop.proofs.Values.{atom_eq-is}
use Rattle.bd_cnf.specs.Clause.{Satisfies}
use Rattle.bd_cnf.specs.Problem.{Problem}
use Rattle.bd_lrat.specs.declared.line.Line.{Line}
use Rattle.bd_lrat.specs.Database.{database_of}
use Rattle.bd_lrat.specs.Log.{adds_empty}
use Rattle.bd_cdcl.proofs.SpentBudgets.{spent_is_short}
use Rattle.bd_lrat.proofs.Soundness.{log_refutes, models_formula}
use Rattle.bd_cdcl.specs.Law.{IsLaw, ends_empty}
use Rattle.bd_cdcl.specs.declared.solver.Found.TheVariants as found
use Rattle.bd_transitive.specs.declared.graph.Edge.{Edge}
use Rattle.bd_transitive.specs.declared.graph.Order.{Order}
use Rattle.bd_transitive.specs.Edges.{IsEnd}
use Rattle.bd_transitive.specs.Orders.{IsOrder}
use Rattle.bd_transitive.specs.Triangle.{value_at}
use Rattle.bd_tseitin.specs.declared.row.AtomVar.{AtomVar}
use Rattle.bd_tseitin.specs.Rows.{Agree, AreRows}
use Rattle.bd_equality.specs.Edges.{IsEdge, IsVertex}
use Rattle.bd_equality.specs.Encoding.{AgreesWith, KeepsMarkedApart}
use Rattle.bd_lift.specs.Decoded.{AreDecoded, decoded_word, edge_truths}
use Rattle.bd_lift.specs.Lifted.{IsLifted}
use Rattle.bd_lift.proofs.Deciding.{words-alone, words-edge}
use Rattle.bd_verify.specs.declared.verdict.Mode.{Mode}
use Rattle.bd_verify.specs.Kept.{IsKeptOf, IsRootOf}
use Rattle.bd_verify.specs.Laws.{KeptDecides, PositiveHaveNoEdge, SpentIsBounded}
use Rattle.bd_verify.specs.Decided.{IsFalseIn, IsKnownRoot, KeepsRoot}
use Rattle.bd_verify.specs.Verdict.{IsAsked, Keeps}
use Rattle.bd_verify.specs.inner.Questions.{DecidesRoot, FollowsRoot, Formulates, IsAdmitted}
use Rattle.bd_verify.proofs.RootDecides.{root-decides, root-known}
use Rattle.bd_verify.proofs.FlatDecides.{flat-follows}
use Rattle.bd_verify.proofs.FormulaDecides.{StandsIn, end-vertex, formula-decides, stands-in}
use Rattle.bd_verify.proofs.CaseExists.{HasCase, case-exists}
use Rattle.bd_tseitin.proofs.Decoded.{is_atom-refl}

-- a log that ends with the empty clause adds it
ends-adds : (log : List Line) → IsTrue (ends_empty log) → IsTrue (list_any adds_empty log)
ends-adds [] h = h
ends-adds (line ∷ []) h = or_left (adds_empty line) false h
ends-adds (line ∷ next ∷ log) h = or_right (adds_empty line) (list_any adds_empty (next ∷ log)) (ends-adds (next ∷ log) h)

-- a refuted formula isn't satisfiable
pub refuted : (p : Problem) (budget : ℕ) (log : List Line) → IsLaw p budget found.Refuted log → (a : ℕ → Bool) → Satisfies a p.clauses → ⊥
refuted p budget log law a sat = log_refutes log (database_of p) law.accepted (ends-adds log law.answer) a (models_formula a p sat)

-- the values that an assignment gives the atoms of rows
pub given_values : (ℕ → Bool) → List AtomVar → List (Atom × Bool)
given_values a [] = []
given_values a (r ∷ rows) = (r.atom, a r.var) ∷ given_values a rows

given-at : (a : ℕ → Bool) (rows : List AtomVar) (k : ℕ) (r : AtomVar) → slice_get rows k ≡ Some r → ((i : ℕ) (s : AtomVar) → slice_get rows i ≡ Some s → s.atom ≡ r.atom → i ≡ k) → truth_of (given_values a rows) r.atom ≡ a r.var
unfolding given_values
given-at a [] k r at first = absurd (cc at)
given-at a (s ∷ rows) zero r at first =
    let e : s ≡ r = same_Some s r at in
    ap (λ (x : AtomVar). unwrap_or (cond (is_atom r.atom x.atom) (Some (a x.var)) (lookup (is_atom r.atom) (given_values a rows))) false) e
    ∙ ap (λ b. unwrap_or (cond b (Some (a r.var)) (lookup (is_atom r.atom) (given_values a rows))) false) (is_atom-refl r.atom)
given-at a (s ∷ rows) (suc k) r at first =
    by_test (given-at a rows k r at (λ i t h same. let next : suc i ≡ suc k = first (suc i) t h same in omega (arith, next))) (is_atom r.atom s.atom) refl
  where
    by_test : truth_of (given_values a rows) r.atom ≡ a r.var → (b : Bool) → is_atom r.atom s.atom ≡ b → truth_of (given_values a (s ∷ rows)) r.atom ≡ a r.var
    by_test rest true e =
        let same : r.atom ≡ s.atom = atom_same r.atom s.atom (atom_eq-is r.atom s.atom ∙ e) in
        let bad : 0 ≡ suc k = first 0 s refl (sym same) in absurd (omega (arith, bad))
    by_test rest false e = ap (λ b. unwrap_or (cond b (Some (a s.var)) (lookup (is_atom r.atom) (given_values a rows))) false) e ∙ rest

-- values of the atoms that agree with an assignment
pub agree-given : (vars : ℕ) (rows : List AtomVar) → AreRows vars rows → (a : ℕ → Bool) → Agree a (truth_of (given_values a rows)) rows
agree-given vars rows are a k dft lt =
    let r : AtomVar = get_or rows k dft in
    given-at a rows k r (slice_get-get_or rows k dft lt) (λ i s h same. are.atoms i k s r h (slice_get-get_or rows k dft lt) same)

bool-from : (b : Bool) (x y : ℕ) → IsTrue b ↔ (x ≡ y) → b ≡ eqb x y
bool-from true x y h = sym (eq-eqb x y (h.0 refl))
bool-from false x y h = sym (false_from_ne_true (eqb x y) (λ e. true≢false (sym (h.1 (eqb-true x y e)))))

-- decoded values agree with the atoms at edges between variables
pub decoded-agree : (nodes : List Node) (marked : Option (List ℕ)) (order : Order) (atoms : List (Atom × Bool)) (given : List Edge) (v : ℕ → Scalar) → IsOrder order → All (IsEdge nodes marked) given
    → ((edge : Edge) → Contains given edge → Contains order.edges edge) → AreDecoded nodes order atoms v → AgreesWith nodes given (truth_of atoms) v
decoded-agree nodes marked order atoms given v is vertices ordered d = record {
  edges = λ edge p.
      let s : StandsIn order.edges (truth_of atoms) edge = stands-in order.edges (truth_of atoms) edge (ordered edge p) in
      let ends : IsEdge nodes marked edge = All-contains (IsEdge nodes marked) given edge vertices p in
      let w = words-edge order atoms d.classes is d.are s.at edge.from edge.to s.joins in
      let from : scalar_word (v edge.from) ≡ decoded_word order d.classes edge.from = ap scalar_word (d.by.words edge.from ends.from.variable) in
      let to : scalar_word (v edge.to) ≡ decoded_word order d.classes edge.to = ap scalar_word (d.by.words edge.to ends.to.variable) in
      sym s.is ∙ bool-from (value_at (edge_truths atoms order.edges) s.at) (decoded_word order d.classes edge.from) (decoded_word order d.classes edge.to) w
      ∙ (λ i. eqb (sym from i) (sym to i));
  truths = λ x p. sym (ap scalar_truth (d.by.truths x p));
}

-- and keep marked variables apart, where none is the end of an edge
pub decoded-apart : (nodes : List Node) (marked : Option (List ℕ)) (order : Order) (atoms : List (Atom × Bool)) (v : ℕ → Scalar) → IsOrder order
    → ((x : ℕ) → IsEnd order.edges x → IsVertex nodes marked x) → AreDecoded nodes order atoms v → KeepsMarkedApart nodes marked v
decoded-apart nodes marked order atoms v is ends d = record {
  apart = λ x y p q ne mark same.
      words-alone order d.classes is d.are.below x y (λ end. true≢false (sym mark ∙ (ends x end).unmarked)) ne
      (sym (ap scalar_word (d.by.words x p)) ∙ same ∙ ap scalar_word (d.by.words y q));
}

module _ (d : DesignView) (old : List Node) (old_root : ℕ) (nodes : List Node) (root : ℕ) (syms : List FlatSym) (marked : Option (List ℕ)) (order : Order) (formula : Problem) (rows : List AtomVar)
    (follows : FollowsRoot d old old_root nodes root syms marked) (f : Formulates d nodes root syms marked order formula rows) where
  -- in the world of a case that is lifted from admitted values the root is false
  pub lifted-fails : (atoms : List (Atom × Bool)) (c : Case) → IsLifted nodes syms order atoms c → IsAdmitted d nodes root syms marked order f.given (truth_of atoms) → IsFalseIn old old_root c
  lifted-fails atoms c l admitted = (
    l.addresses,
    follows.to_case order atoms c l
        (admitted.refutes l.values (decoded-apart nodes marked order atoms l.values f.is_order f.ends l.decoded)
        (decoded-agree nodes marked order atoms f.given l.values f.is_order f.vertices f.ordered l.decoded)),
  )

  pub decides-root : HasLawfulSymbols d → IsFlat nodes root syms → AreRows formula.vars rows → DecidesRoot d old old_root formula
  decides-root lawful flat are = record {
    to_case = λ a sat.
        let atoms : List (Atom × Bool) = given_values a rows in
        let admitted = f.down a (truth_of atoms) sat (agree-given formula.vars rows are a) in
        let h : HasCase d nodes syms order atoms = case-exists d nodes root syms order atoms lawful follows.graph follows.known flat f.is_order admitted.triangles admitted.constants in
        (h.case, h.fits, lifted-fails atoms h.case h.lifted admitted);
    from_world = λ w apart fails. let v = follows.from_world w apart fails in f.up v.0 v.1 v.2;
  }

-- the formula that is kept of a root decides where the root is false
pub kept-decides-root : (d : DesignView) (is_root : List Node → ℕ → Type 0) (m : Mode) (formula : Problem) → HasLawfulSymbols d → (k : IsKeptOf d is_root m formula) → IsKnownRoot d k.flat.terms k.flat.term
    → DecidesRoot d k.flat.terms k.flat.term formula
kept-decides-root d is_root m formula lawful k known =
    let follows = flat-follows d is_root m k.nodes k.root k.syms k.marked k.flat known in
    let f = formula-decides d k.nodes k.root k.syms k.marked k.order formula k.rows lawful follows.known k.flat.functions.flat k.formula_is in
    decides-root d k.flat.terms k.flat.term k.nodes k.root k.syms k.marked k.order formula k.rows follows f lawful k.flat.functions.flat k.formula_is.adds.numbered.are

-- so it is satisfiable exactly where the root is false in some world that keeps the constants apart
pub keeps-root : (d : DesignView) (nodes : List Node) (root : ℕ) (formula : Problem) → HasLawfulSymbols d → DecidesRoot d nodes root formula → KeepsRoot d nodes root formula
keeps-root d nodes root formula lawful h = record {
  decides = (
    λ s. let found = h.to_case s.0 s.1 in (case_world found.0 found.2.0, case_world-apart d found.0 found.2.0 lawful found.1, found.2.1),
    λ w. h.from_world w.0 w.1 w.2,
  );
}

-- and exactly where some fitting case is such, if the root decides that
pub keeps-such : (d : DesignView) (such : Case → Type 0) (nodes : List Node) (root : ℕ) (formula : Problem) → DecidesRoot d nodes root formula → Decides d such nodes root → Keeps d such formula
keeps-such d such nodes root formula h decides = record {
  decides = (
    λ s.
        let found = h.to_case s.0 s.1 in
        (found.0, found.1, decides.to_case found.0 found.2.0 (case_world found.0 found.2.0) found.1 (record { alike = λ u r args. refl }) found.2.1),
    λ c. let found = decides.from_case c.0 c.1 c.2 in h.from_world (case_world c.0 found.0) found.1 found.2,
  );
}

-- the formula that is kept of a root that decides whether some case is such decides it too
pub kept-decides-of : (d : DesignView) (such : Case → Type 0) (is_root : List Node → ℕ → Type 0) (m : Mode) (formula : Problem) → HasLawfulSymbols d
    → ((terms : List Node) (term : ℕ) → is_root terms term → IsKnownRoot d terms term) → ((terms : List Node) (term : ℕ) → is_root terms term → IsGraph terms → Decides d such terms term)
    → IsKeptOf d is_root m formula → Keeps d such formula
kept-decides-of d such is_root m formula lawful known decides k =
    let f = k.flat in
    keeps-such d such f.terms f.term formula (kept-decides-root d is_root m formula lawful k (known f.terms f.term f.asked)) (decides f.terms f.term f.asked f.graph)

pub kept-decides : KeptDecides
kept-decides d asked m formula lawful k =
    kept-decides-of d (IsAsked asked d) (IsRootOf d asked) m formula (lawful-symbols d lawful) (root-known d asked) (root-decides d lawful asked) k

-- in diverse mode no edge has an end whose symbol is positive
pub positive-have-no-edge : PositiveHaveNoEdge
positive-have-no-edge d asked nodes root syms marked order formula rows flat f x end is =
    let vertex : IsVertex nodes marked x = end-vertex nodes marked f.edges f.encoded.vertices x ((f.ordered.vertices x).0 (f.ordered.is_order.ends x end)) in
    true≢false (sym ((flat.marks x).1 is) ∙ vertex.unmarked)

pub spent-is-bounded : SpentIsBounded
spent-is-bounded d m budget asked work h = spent_is_short work.cnf budget work.log h.law
