use Rattle.std.proofs.Common.{[], ap, ◌∙◌, arith}
use Rattle.std.specs.Prelude.{nat_eq}
use Rattle.std.proofs.lemmas.Cmp.{nat_eq_equiv}
use Rattle.std.proofs.lemmas.List.{take_all}
use Rattle.indexmap.specs.IndexSet.{insert_all}
use Rattle.indexmap.proofs.SetLemmas.{set_all_distinct}
use Rattle.bd_lift.proofs.decode.places.Goals as goal

pub returns : goal.returns
returns c =
    c.loop-vertex.invariant ∙ ap (insert_all nat_eq []) (take_all c.loop-vertex.vertex-index c.args.vertices.now (omega arith)) ∙ set_all_distinct nat_eq_equiv [] c.args.vertices.now c.requires
