use Rattle.std.proofs.Common.{◌<◌, Contains, inr, length, subst}
use Rattle.bd_verify.specs.Kept.{AddsEdges}
use Rattle.bd_verify.proofs.FormulaDecides.{ordered-by}
use Rattle.bd_verify.specs.inner.Numbers.{most_variables}
use Rattle.bd_verify.proofs.FewVariables.{few-variables}
use Rattle.bd_verify.proofs.reduction.formula_of.Goals as goal

pub with_edges-requires-clause-few : goal.with_edges-requires-clause-few
with_edges-requires-clause-few c =
    let first = c.in_ok-formula.formula in
    few-variables c.in_ok-denied.denied.prop c.in_ok-denied.denied.root first.cnf.vars first.cnf.clauses first.atoms most_variables c.in_ok-formula.ensures.form.0
    (subst (λ l. length l < most_variables) c.nodes-nodes.ensures.value c.if-prove.false)

pub with_edges-requires-clause-apart : goal.with_edges-requires-clause-apart
with_edges-requires-clause-apart c = λ edge has.
    let e = c.in_ok-encoded.encoded in
    let order = c.in_ok-order.order in
    ordered-by _ order.edges e.edges c.in_ok-order.ensures.given edge ((c.in_ok-encoded.ensures.edges edge).1 (inr (subst (λ l. Contains l edge) c.as_slice.ensures has)))

pub returns : goal.returns
returns c = λ cycles.
    let e = c.in_ok-encoded.encoded in
    let h = c.in_ok-encoded.ensures in
    let first = c.in_ok-formula.formula in
    let new = c.in_ok-formula-2.formula in
    let order = c.in_ok-order.order in
    let o = c.in_ok-order.ensures in
    record {
      prop = e.prop;
      prop_root = e.root;
      edges = e.edges;
      apart = e.apart;
      encoded = record {
        graph = h.graph;
        inside = h.root;
        made = h.made;
        denotes = h.denotes;
        by_edges = h.by_edges;
        simple = h.simple;
        edges_are = h.edges;
        vertices = h.vertices;
        apart_are = h.apart;
        apart_simple = h.apart_simple;
      };
      ordered = record { is_order = o.order; fewest = o.fewest; vertices = o.vertices; given = o.given; further = o.further };
      first = first.cnf;
      first_rows = first.atoms;
      denied = record {
        nodes = c.in_ok-denied.denied.prop;
        root = c.in_ok-denied.denied.root;
        negation = c.in_ok-denied.ensures;
        different = c.in_ok-formula.ensures.different;
        form = c.in_ok-formula.ensures.form.0;
      };
      adds = subst (λ l. AddsEdges order l first.cnf first.atoms new.cnf new.atoms) c.as_slice.ensures c.in_ok-formula-2.ensures;
    }
