use Rattle.std.proofs.Common.{◌≡◌, ◌*◌, ◌↔◌, ◌≤◌, ◌∙◌, ℕ, Bool, All, List, length, map, sym, ap, subst}
use Rattle.std.specs.List.{IsDistinct}
use Rattle.std.specs.Prelude.{nat_eq}
use Rattle.std.specs.Result.{IfOk}
use Rattle.std.proofs.lemmas.Bool.Decides.{Decides-eqb}
use Rattle.std.proofs.lemmas.List.{length-map}
use Rattle.std.proofs.lemmas.Map.Made.{IsDistinct-from_AllPairs}
use Rattle.std.proofs.lemmas.Result.{IfOk-weaker}
use Rattle.bd_cnf.specs.Clause.{Satisfies}
use Rattle.bd_cnf.specs.Problem.{AreWithin}
use Rattle.bd_transitive.specs.declared.span.Span.{Span}
use Rattle.bd_transitive.specs.Clauses.{AreTriangleClauses}
use Rattle.bd_transitive.specs.Triangle.{MeetsTriangles, edge_value, triangle_count}
use Rattle.bd_transitive.specs.inner.Spans.{AreClausesBelow, IsComplete, span_of}
use Rattle.bd_transitive.proofs.OrderSpans.{complete_from_order}
use Rattle.bd_transitive.proofs.SpanEq.{span_eq, span_decides}
use Rattle.bd_transitive.proofs.TriangleClauses.{clauses_counted, clauses_from_spans, clauses_meet, clauses_within}
use Rattle.bd_transitive.proofs.clauses.triangles.Goals as goal

pub indexed-requires : goal.indexed-requires
indexed-requires c = subst (IsDistinct nat_eq) (sym c.as_slice.ensures) (IsDistinct-from_AllPairs Decides-eqb c.args.order.now.vertices c.requires.order.vertices)

pub indexed-requires-2 : goal.indexed-requires-2
indexed-requires-2 c =
    let vs = c.args.order.now.vertices in
    let es = c.args.order.now.edges in
    let keys : c.in_ok-vertices.vertices.keys ≡ vs = c.in_ok-vertices.ensures ∙ c.as_slice.ensures in
    let is : c.deref.result.now ≡ map (span_of vs) es = c.deref.ensures.value ∙ c.in_ok-given.ensures ∙ (λ j. map (span_of (keys j)) (c.as_slice-2.ensures j)) in
    subst (IsDistinct span_eq) (sym is) (IsDistinct-from_AllPairs span_decides (map (span_of vs) es) (complete_from_order c.args.order.now c.requires.order).distinct)

pub clauses-requires-clause-complete : goal.clauses-requires-clause-complete
clauses-requires-clause-complete c =
    let vs = c.args.order.now.vertices in
    let es = c.args.order.now.edges in
    let keys : c.in_ok-vertices.vertices.keys ≡ vs = c.in_ok-vertices.ensures ∙ c.as_slice.ensures in
    let is : c.in_ok-numbers.numbers.keys ≡ map (span_of vs) es = c.in_ok-numbers.ensures ∙ c.deref.ensures.value ∙ c.in_ok-given.ensures ∙ (λ j. map (span_of (keys j)) (c.as_slice-2.ensures j)) in
    let count : c.len.result ≡ length vs = c.len.ensures.len ∙ ap length keys in
    subst (λ (n : ℕ). IsComplete n c.in_ok-numbers.numbers.keys) (sym count) (subst (IsComplete (length vs)) (sym is) (complete_from_order c.args.order.now c.requires.order))

pub clauses-requires-clause-counted : goal.clauses-requires-clause-counted
clauses-requires-clause-counted c =
    let vs = c.args.order.now.vertices in
    let es = c.args.order.now.edges in
    let keys : c.in_ok-vertices.vertices.keys ≡ vs = c.in_ok-vertices.ensures ∙ c.as_slice.ensures in
    let is : c.in_ok-numbers.numbers.keys ≡ map (span_of vs) es = c.in_ok-numbers.ensures ∙ c.deref.ensures.value ∙ c.in_ok-given.ensures ∙ (λ j. map (span_of (keys j)) (c.as_slice-2.ensures j)) in
    c.requires.counted ∙ sym (ap length is ∙ length-map es (span_of vs))

pub returns : goal.returns
returns c =
    let order = c.args.order.now in
    let vars = c.args.variables.now in
    let vs = order.vertices in
    let es = order.edges in
    let keys : c.in_ok-vertices.vertices.keys ≡ vs = c.in_ok-vertices.ensures ∙ c.as_slice.ensures in
    let is : c.in_ok-numbers.numbers.keys ≡ map (span_of vs) es = c.in_ok-numbers.ensures ∙ c.deref.ensures.value ∙ c.in_ok-given.ensures ∙ (λ j. map (span_of (keys j)) (c.as_slice-2.ensures j)) in
    let made : IfOk c.clauses.result (AreTriangleClauses order vars) =
    IfOk-weaker c.clauses.result (λ t. AreClausesBelow (map (span_of vs) es) vars (length (map (span_of vs) es)) t) (AreTriangleClauses order vars) (clauses_from_spans order c.requires.order vars)
    (subst (λ (l : List Span). IfOk c.clauses.result (λ t. AreClausesBelow l vars (length l) t)) is c.clauses.ensures) in
    record {
      clauses = made;
      meets = IfOk-weaker c.clauses.result (AreTriangleClauses order vars) (λ t. (v : ℕ → Bool) → Satisfies v t ↔ MeetsTriangles order (edge_value v vars)) (clauses_meet order c.requires.order vars) made;
      three = IfOk-weaker c.clauses.result (AreTriangleClauses order vars) (λ t. length t ≡ 3 * triangle_count order) (clauses_counted order c.requires.order vars) made;
      within = IfOk-weaker c.clauses.result (AreTriangleClauses order vars) (λ t. (n : ℕ) → All (λ x. x ≤ n) vars → AreWithin n t)
          (λ t h n low. clauses_within order c.requires.order vars t h n c.requires.counted low) made;
    }
