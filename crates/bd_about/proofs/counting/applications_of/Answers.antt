use Rattle.std.proofs.Common.{refl}
use Rattle.std.proofs.lemmas.Result.{IfOk-weaker}
use Rattle.bd_model.specs.DesignView.{design_view}
use Rattle.bd_verify.specs.declared.verdict.Question.TheVariants.{Breaks}
use Rattle.bd_verify.proofs.RootDecides.{root-breaks}
use Rattle.bd_about.specs.Applications.{AreApplications}
use Rattle.bd_about.specs.inner.Counted.{IsCountedPlain}
use Rattle.bd_about.proofs.counting.applications_of.Goals as goal

pub returns : goal.returns
returns c =
    let d = design_view c.args.design.now in
    let found = c.in_ok-goal.goal in
    let h = c.in_ok-goal.ensures in
    let b = c.in_ok-plain.ensures.plain in
    let plain = c.in_ok-plain.plain in
    let plain_root = c.in_ok-plain.root in
    IfOk-weaker c.in_plain.result (IsCountedPlain d plain plain_root) (AreApplications d)
    (λ a p. record {
      nodes = p.nodes;
      root = p.root;
      syms = p.syms;
      marked = p.marked;
      flat = record {
        terms = c.goal.new.graph;
        term = found.root;
        graph = c.len.ensures.graph;
        asked = root-breaks d Breaks c.goal.new.graph found.root found.addresses refl h.sorted h.denotes h.made h.addresses h.symbols;
        built = b.built;
        built_root = b.built_root;
        memories = b.memories;
        plain = plain;
        plain_root = plain_root;
        order = b.order;
        functions = p.functions;
        marks = p.marks;
      };
      prop = p.counts.prop;
      prop_root = p.counts.prop_root;
      edges = p.counts.edges;
      apart = p.counts.apart;
      encoded = p.counts.encoded;
      formula = p.counts.formula;
      rows = p.counts.rows;
      denied = p.counts.denied;
      counts = p.counts.counts.counts;
      compared = p.counts.counts.compared;
    })
    c.in_plain.ensures
