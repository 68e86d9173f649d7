-- What a root's flat formula decides.
use lib.Pointwise.{pointwise}
use Rattle.std.proofs.Common.{◌≡◌, ◌≢◌, ℕ, ◌+◌, ◌<◌, IsTrue, if◌then◌else◌, inl, inr, List, [], ◌∷◌, length, get_or, slice_get, Option, Some, Contains, ap, sym, ◌∙◌, arith, nat_eq}
use Rattle.std.specs.List.{AllPairs}
use Rattle.std.proofs.lemmas.Bool.{cases_order, false≢true}
use Rattle.std.proofs.lemmas.List.{get_or_default}
use Rattle.std.proofs.lemmas.Option.{none-some, same_Some}
use Rattle.bd_model.specs.DesignView.{DesignView}
use Rattle.bd_model.specs.Table.{at}
use Rattle.bd_model.specs.Value.{scalar_word}
use Rattle.bd_model.specs.declared.design.Sort.TheVariants as sort
use Rattle.bd_model.specs.declared.table.Scalar.{Scalar}
use Rattle.bd_model.specs.declared.table.Scalar.TheVariants as scalar
use Rattle.bd_terms.specs.declared.node.Node.{Node}
use Rattle.bd_terms.specs.declared.node.Sym.TheVariants as symbol
use Rattle.bd_terms.specs.Denotation.{World, applied, denoted, truth, truth_of, word, words}
use Rattle.bd_terms.specs.Graph.{HasSort, IsGraph, Use}
use Rattle.bd_terms.proofs.Places.{AllByRecursion-get}
use Rattle.bd_terms.proofs.Symbols.{uses-get}
use Rattle.bd_walk.specs.Carried.{AppliesReached, DenotesSame}
use Rattle.bd_walk.proofs.Composing.{AppliesReached-trans, DenotesSame-trans, HasSortsReached-none}
use Rattle.bd_function.specs.declared.flat.FlatRow.{FlatRow}
use Rattle.bd_function.specs.declared.flat.FlatSym.{FlatSym}
use Rattle.bd_function.specs.Flat.{AreApplications, Flattens, HasAllApplications, IsChosen, IsFlat, KeepsFirst, ReachesNoMemory, arguments, first_value, under}
use Rattle.bd_diverse.proofs.Existing.{AtLeast, DiverseWorld, at_least-below, diverse-world}
use Rattle.bd_transitive.specs.declared.graph.Edge.{Edge}
use Rattle.bd_equality.specs.Edges.{IsApart, IsConstant}
use Rattle.bd_equality.specs.Encoding.{has_mark}
use Rattle.bd_terms.specs.Valid.{KeepsConstantsApart}
use Rattle.bd_function.proofs.Evaluating.{ReachesNoMemory-all}
use Rattle.bd_goal.specs.Claims.{case_world}
use Rattle.bd_goal.specs.Symbols.{IsKnown as IsKnownOf}
use Rattle.bd_lift.specs.Lifted.{AreKnown, IsKnown}
use Rattle.bd_lift.proofs.Denoting.{lifted-denotes}
use Rattle.bd_verify.specs.declared.verdict.Mode.{Mode}
use Rattle.bd_verify.specs.declared.verdict.Mode.TheVariants as mode
use Rattle.bd_verify.specs.Decided.{IsKnownRoot}
use Rattle.bd_verify.specs.Kept.{AreMarks, IsFlatOf}
use Rattle.bd_verify.specs.inner.Questions.{FollowsRoot, KeepsWordsApart, MarksPositive}
use Rattle.bd_verify.proofs.Entries.{one-entry}
use Rattle.bd_transitive.proofs.OrderSpans.{at_from_Contains, Contains-from_at}
use Rattle.bd_verify.proofs.MarkedApart.{marked-apart}

-- two members of a group with different values have them wherever they stand
pub pairs-apart : (value : ℕ → ℕ) (group : List ℕ) → AllPairs (λ f g. value f ≢ value g) group → (f g : ℕ) → Contains group f → Contains group g → f ≢ g → value f ≢ value g
pairs-apart value group h f g p q ne same = elim (cases_order p.0 q.0) [
  | inl e ↦ ne (sym p.2 ∙ get_or_default group p.0 f g p.1 ∙ ap (λ k. get_or group k g) e ∙ q.2)
  | inr (inl lt) ↦ h p.0 q.0 f lt q.1 (ap value p.2 ∙ same ∙ ap value (sym q.2 ∙ get_or_default group q.0 g f q.1))
  | inr (inr lt) ↦ h q.0 p.0 f lt p.1 (ap value (get_or_default group q.0 f g q.1 ∙ q.2) ∙ sym same ∙ ap value (sym p.2))
]

known-use : (d : DesignView) (n : ℕ) (u : Use) → IsKnownOf d n u → IsKnown d u
known-use d n u (inl h) = inl h
known-use d n u (inr (i, lt, e)) = inr (i, e)

-- the first row's variable has the value of the table at no arguments, where it has none
first-value : (v : ℕ → Scalar) (nodes : List Node) (rows : List FlatRow) (r : FlatRow) → slice_get rows 0 ≡ Some r → r.args ≡ [] → first_value v nodes rows [] ≡ v r.var
first-value v nodes [] r first plain = absurd (none-some r first)
first-value v nodes (q ∷ rows) r first plain =
    let same : q ≡ r = same_Some q r first in
    let none : arguments v nodes q ≡ [] = ap (arguments v nodes) same ∙ ap (words (under v) nodes) plain in
    ap (λ args. if pointwise nat_eq args [] then v q.var else first_value v nodes rows []) none ∙ ap (λ (s : FlatRow). v s.var) same

module _ (d : DesignView) (nodes : List Node) (root : ℕ) (syms : List FlatSym) (marked : Option (List ℕ)) (flat : IsFlat nodes root syms) (w : World) (v : ℕ → Scalar) (keeps : KeepsFirst w v nodes syms) where
  -- a constant's variable has its value in the world
  constant-value : (f x : ℕ) → IsConstant nodes syms marked f x → scalar_word (v x) ≡ applied w (symbol.Function f) []
  constant-value f x c =
      let none : arguments v nodes c.row ≡ [] = ap (words (under v) nodes) c.plain in
      ap (λ y. scalar_word (v y)) (sym c.variable)
      ∙ ap scalar_word (sym (first-value v nodes c.holder.rows c.row c.first c.plain) ∙ ap (first_value v nodes c.holder.rows) (sym none)
      ∙ keeps.first c.holder c.listed c.row (Contains-from_at c.holder.rows 0 c.row c.first))
      ∙ ap (λ args. scalar_word (at (w c.holder.sym) args)) none
      ∙ ap (λ s. scalar_word (at (w s) [])) c.same

  constants-different : (edge : Edge) (e : IsApart nodes syms d.distinct marked edge) → e.f ≢ e.g
  constants-different edge e same =
      let a = e.from in
      let b = e.to in
      let holders : a.holder ≡ b.holder = one-entry nodes root syms flat a.holder b.holder a.listed b.listed (a.same ∙ ap symbol.Function same ∙ sym b.same) in
      let row : a.row ≡ b.row = same_Some a.row b.row (sym a.first ∙ ap (λ (s : FlatSym). slice_get s.rows 0) holders ∙ b.first) in
      let ends : edge.from ≡ edge.to = sym a.variable ∙ ap (λ (r : FlatRow). r.var) row ∙ b.variable in
      let below = e.below in
      omega (arith, ends, below)

  pub words-apart : KeepsConstantsApart d w → (edge : Edge) → IsApart nodes syms d.distinct marked edge → scalar_word (v edge.from) ≢ scalar_word (v edge.to)
  words-apart apart edge e same =
      let place = at_from_Contains d.distinct e.group e.listed in
      let pairs = AllByRecursion-get (AllPairs (λ f g. applied w (symbol.Function f) [] ≢ applied w (symbol.Function g) [])) d.distinct place.0 e.group apart place.1 in
      pairs-apart (λ f. applied w (symbol.Function f) []) e.group pairs e.f e.g e.has_f e.has_g (constants-different edge e)
      (sym (constant-value e.f edge.from e.from) ∙ same ∙ constant-value e.g edge.to e.to)

module _ (d : DesignView) (old : List Node) (old_root : ℕ) (plain : List Node) (plain_root : ℕ) (nodes : List Node) (root : ℕ) (syms : List FlatSym) (marked : Option (List ℕ))
    (known : IsKnownRoot d old old_root) (denotes : DenotesSame old old_root plain plain_root) (sorted : HasSort plain plain_root sort.Bool) (reached : AppliesReached old old_root plain)
    (g : IsGraph plain) (none : ReachesNoMemory plain plain_root) (flattens : Flattens plain plain_root nodes root syms) (rows : AreApplications plain plain_root nodes syms) (all : HasAllApplications plain plain_root nodes syms)
    (chosen : (w : World) (choice : ℕ → Scalar) → IsChosen plain plain_root nodes syms w choice) (flat : IsFlat nodes root syms) (flat_graph : IsGraph nodes) (marks : MarksPositive plain plain_root syms marked) where
  flat-known : AreKnown d nodes syms
  flat-known = record {
    each = λ s p r q.
        let a = rows.each s p r q in
        let u = a.reached in
        record {
          applied = a.applied;
          known = known-use d known.count a.applied (known.known.known a.applied (reached.reached a.applied (uses-get plain u.id u.node u.there a.applied u.applies)));
          same = a.same;
          arity = a.arity;
          variable = a.variable;
        };
  }

  -- a world that makes the root false leads to values that do, where words are kept apart: those of a diverse world
  flat-values : (w : World) → KeepsConstantsApart d w → (IsTrue (truth w plain plain_root) → ⊥) → (v : ℕ → Scalar) × KeepsWordsApart d nodes syms marked v × (¬ IsTrue (truth (under v) nodes root))
  flat-values w apart fails =
      let k : DiverseWorld d plain plain_root = diverse-world d plain g plain_root sorted.inside none w apart fails in
      let least : AtLeast (word k.new plain) (λ id. id < length plain) = at_least-below (word k.new plain) (length plain) in
      let c = chosen k.new (λ x. scalar.Word (least.most + 1 + x)) in (
        c.values,
        record {
          differ = words-apart d nodes root syms marked flat k.new c.values c.keeps k.apart;
          apart = marked-apart k.new c.values plain plain_root g nodes root syms flat_graph flat k.diverse marked marks least.most least.bounds c.each;
        },
        λ h. k.false_ (sym (ap truth_of (flattens.means k.new c.values c.keeps)) ∙ h),
      )

  pub follows-root : FollowsRoot d old old_root nodes root syms marked
  follows-root = record {
    graph = flat_graph;
    known = flat-known;
    from_world = λ w apart fails. flat-values w apart (λ h. fails (sym (ap truth_of (denotes.same w)) ∙ h));
    to_case = λ order atoms c l fails h.
        let w : World = case_world c l.addresses in
        let same : denoted w plain plain_root ≡ denoted (under l.values) nodes root =
        lifted-denotes plain plain_root nodes root syms order atoms c g sorted.inside flattens all flat l in
        fails (sym (ap truth_of same) ∙ ap truth_of (denotes.same w) ∙ h);
  }

marks-positive : (m : Mode) (old : List Node) (old_root : ℕ) (syms : List FlatSym) (marked : Option (List ℕ)) → AreMarks m old old_root syms marked → MarksPositive old old_root syms marked
marks-positive mode.Plain old old_root syms marked none = record {
  each = λ x is. absurd (false≢true (sym (ap (λ l. has_mark l x) none) ∙ is));
}
marks-positive mode.Diverse old old_root syms marked all = record { each = λ x is. (all x).0 is }

-- a flat formula follows its root
pub flat-follows : (d : DesignView) (is_root : List Node → ℕ → Type 0) (m : Mode) (nodes : List Node) (root : ℕ) (syms : List FlatSym) (marked : Option (List ℕ))
    → (f : IsFlatOf is_root m nodes root syms marked) → IsKnownRoot d f.terms f.term → FollowsRoot d f.terms f.term nodes root syms marked
flat-follows d is_root m nodes root syms marked f known =
    let p = f.memories in
    let o = f.order in
    let k = f.functions in
    follows-root d f.terms f.term f.plain f.plain_root nodes root syms marked known
    (DenotesSame-trans f.terms f.term f.built f.built_root f.plain f.plain_root p.denotes o.denotes) o.sorted
    (AppliesReached-trans f.terms f.term f.built f.built_root f.plain p.reached o.reached) o.graph
    (ReachesNoMemory-all f.plain o.graph f.plain_root o.sorted.inside
    (HasSortsReached-none f.built p.graph f.built_root f.plain p.sorted.inside o.sorts sort.Memory p.none.no_memory)) k.flattens k.rows k.all_rows k.chosen k.flat k.graph (marks-positive m f.plain f.plain_root syms marked f.marks)
