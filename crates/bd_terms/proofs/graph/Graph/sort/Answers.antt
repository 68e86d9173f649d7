-- Each node has its sort beside it, at its place.
use Rattle.std.proofs.Common.{◌<◌, [], length, ap, ◌∙◌, arith}
use Rattle.std.specs.Prelude.{slice_index_or}
use Rattle.std.proofs.lemmas.List.{get_or_default}
use Rattle.bd_list.proofs.Grown.{length-grown}
use Rattle.bd_model.specs.declared.design.Sort.TheVariants as sort
use Rattle.bd_terms.specs.Graph.{node_sort, sorts}
use Rattle.bd_terms.proofs.graph.Graph.sort.Goals as goal

pub index-requires-2 : goal.index-requires-2
index-requires-2 c =
    omega (arith, length-grown node_sort [] c.self.inside.nodes.keys, ap length c.self.invariant.sorted, ap length c.self.view_is, c.requires)

pub returns : goal.returns
returns c =
    let inside : c.index.result < length c.self.inside.sorts.items =
    omega (arith, length-grown node_sort [] c.self.inside.nodes.keys, ap length c.self.invariant.sorted, ap length c.self.view_is, c.requires) in
    c.index-2.ensures
    ∙ get_or_default c.self.inside.sorts.items c.index.result c.index-2.result.now sort.Bool inside
    ∙ ap (λ l. slice_index_or l c.index.result sort.Bool) (c.self.invariant.sorted ∙ ap sorts c.self.view_is)
    ∙ ap (λ i. slice_index_or (sorts c.args.self.now) i sort.Bool) c.index.ensures
