use Rattle.bd_function.proofs.Evaluating.{ReachesNoMemory-all}
use Rattle.bd_model.specs.declared.design.Sort.TheVariants as sort
use Rattle.bd_walk.proofs.Composing.{HasSortsReached-none}
use Rattle.bd_about.proofs.counting.plain_of.Goals as goal

pub returns-clause-plain : goal.returns-clause-plain
returns-clause-plain c =
    let b = c.in_ok-built.ensures in
    let h = c.in_ok-plain.ensures in
    record {
      built = c.in_ok-built.built;
      built_root = c.in_ok-built.built_root;
      memories = record { graph = b.graph; sorted = b.sorted; none = b.memories; made = b.made; denotes = b.denotes; reached = b.symbols };
      order = record { graph = h.graph; sorted = h.sorted; order = h.order; denotes = h.denotes; sorts = h.sorts; reached = h.symbols };
    }

pub returns-clause-memory : goal.returns-clause-memory
returns-clause-memory c =
    let b = c.in_ok-built.ensures in
    let h = c.in_ok-plain.ensures in
    ReachesNoMemory-all c.in_ok-plain.plain h.graph c.in_ok-plain.plain_root h.sorted.inside
    (HasSortsReached-none c.in_ok-built.built b.graph c.in_ok-built.built_root c.in_ok-plain.plain b.sorted.inside h.sorts sort.Memory b.memories.no_memory)
