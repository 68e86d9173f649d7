use Rattle.std.proofs.Common.{Contains, Some}
use Rattle.std.proofs.lemmas.Result.{IfOk-weaker}
use Rattle.bd_model.specs.DesignView.{design_view}
use Rattle.bd_diverse.specs.Positive.{IsPositive}
use Rattle.bd_about.specs.inner.Counted.{IsCountedFlat, IsCountedPlain}
use Rattle.bd_about.proofs.RowCounts.{counts-alike}
use Rattle.bd_about.proofs.counting.in_plain.Goals as goal

pub returns : goal.returns
returns c =
    let d = design_view c.args.design.now in
    let plain = c.args.plain.now in
    let root = c.args.root in
    let among = c.in_ok-symbols.symbols in
    let k = c.in_ok-flat.ensures in
    let flat = c.in_ok-flat.flat in
    let marked = c.in_ok-marked.marked in
    IfOk-weaker c.in_flat.result (IsCountedFlat d (Contains among) flat.graph flat.root flat.syms (Some marked)) (IsCountedPlain d plain root)
    (λ a p. record {
      nodes = flat.graph;
      root = flat.root;
      syms = flat.syms;
      marked = Some marked;
      functions = record {
        graph = k.graph;
        flat = flat.flat;
        made = k.made;
        flattens = k.flattens;
        rows = k.rows;
        all_rows = k.all_rows;
        chosen = k.chosen;
      };
      marks = λ x. (
        λ is. let q = (c.in_ok-marked.ensures x).0 is in record { holder = q.holder; listed = q.listed; positive = (c.in_ok-symbols.ensures q.holder.sym).0 q.among; row = q.row },
        λ q. (c.in_ok-marked.ensures x).1 (record { holder = q.holder; listed = q.listed; among = (c.in_ok-symbols.ensures q.holder.sym).1 q.positive; row = q.row }),
      );
      counts = record {
        prop = p.prop;
        prop_root = p.prop_root;
        edges = p.edges;
        apart = p.apart;
        encoded = p.encoded;
        formula = p.formula;
        rows = p.rows;
        denied = p.denied;
        counts = record {
          counts = counts-alike _ (Contains among) (IsPositive plain root) flat.syms p.edges p.formula.clauses p.rows a.applied c.in_ok-symbols.ensures p.counts.counts;
          compared = p.counts.compared;
        };
      };
    })
    c.in_flat.ensures
