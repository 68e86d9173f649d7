use Rattle.std.proofs.Common.{Contains, Some, subst}
use Rattle.std.proofs.lemmas.Result.{IfOk-weaker}
use Rattle.bd_model.specs.DesignView.{design_view}
use Rattle.bd_about.specs.inner.Counted.{AreCounted, IsCountedFlat}
use Rattle.bd_about.proofs.counting.in_flat.Goals as goal

pub returns : goal.returns
returns c =
    let d = design_view c.args.design.now in
    let flat = c.args.flat.now in
    let among = c.args.symbols.now in
    let marked = c.args.marked.now in
    let e = c.in_ok-encoded.encoded in
    let h = c.in_ok-encoded.ensures in
    let formula = c.in_ok-formula.formula in
    IfOk-weaker c.in_formula.result (AreCounted c.len.result (Contains among) flat.syms c.as_slice-edges.result.now formula.cnf.clauses formula.atoms)
    (IsCountedFlat d (Contains among) flat.graph flat.root flat.syms (Some marked))
    (λ a k.
    let r = subst (λ l. AreCounted c.len.result (Contains among) flat.syms l formula.cnf.clauses formula.atoms a) c.as_slice-edges.ensures k in
    let s = subst (λ n. AreCounted n (Contains among) flat.syms e.edges formula.cnf.clauses formula.atoms a) c.len.ensures r in
    record {
      prop = e.prop;
      prop_root = e.root;
      edges = e.edges;
      apart = e.apart;
      encoded = record {
        graph = h.graph;
        inside = h.root;
        made = h.made;
        denotes = h.denotes;
        by_edges = h.by_edges;
        simple = h.simple;
        edges_are = h.edges;
        vertices = h.vertices;
        apart_are = h.apart;
        apart_simple = h.apart_simple;
      };
      formula = formula.cnf;
      rows = formula.atoms;
      denied = c.in_ok-formula.ensures;
      counts = s;
    })
    c.in_formula.ensures
