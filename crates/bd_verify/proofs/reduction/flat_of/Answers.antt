use Rattle.std.proofs.Common.{refl}
use Rattle.bd_function.proofs.Evaluating.{ReachesNoMemory-all}
use Rattle.bd_model.specs.declared.design.Sort.TheVariants as sort
use Rattle.bd_walk.proofs.Composing.{HasSortsReached-none}
use Rattle.bd_verify.proofs.reduction.flat_of.Goals as goal

pub flatten-requires-clause-memory : goal.flatten-requires-clause-memory
flatten-requires-clause-memory c =
    let b = c.in_ok-built.ensures in
    let h = c.in_ok-plain.ensures in
    ReachesNoMemory-all c.in_ok-plain.plain h.graph c.in_ok-plain.plain_root h.sorted.inside
    (HasSortsReached-none c.in_ok-built.built b.graph c.in_ok-built.built_root c.in_ok-plain.plain b.sorted.inside h.sorts sort.Memory b.memories.no_memory)

pub returns : goal.returns
returns c =
    let b = c.in_ok-built.ensures in
    let h = c.in_ok-plain.ensures in
    let k = c.in_ok-flat.ensures in
    record {
      terms = c.args.graph.now;
      term = c.args.root;
      graph = c.len.ensures.graph;
      asked = (refl, refl);
      built = c.in_ok-built.built;
      built_root = c.in_ok-built.built_root;
      memories = record { graph = b.graph; sorted = b.sorted; none = b.memories; made = b.made; denotes = b.denotes; reached = b.symbols };
      plain = c.in_ok-plain.plain;
      plain_root = c.in_ok-plain.plain_root;
      order = record { graph = h.graph; sorted = h.sorted; order = h.order; denotes = h.denotes; sorts = h.sorts; reached = h.symbols };
      functions = record {
        graph = k.graph;
        flat = c.in_ok-flat.flat.flat;
        made = k.made;
        flattens = k.flattens;
        rows = k.rows;
        all_rows = k.all_rows;
        chosen = k.chosen;
      };
      marks = c.in_ok-marked.ensures;
    }
