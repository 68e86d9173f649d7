use Rattle.std.proofs.Common.{◌==◌, ◌&&◌, ◌||◌, ap, sym, ◌∙◌, get_or}
use Rattle.std.proofs.Math.Bool.{or_assoc}
use Rattle.std.proofs.lemmas.List.Folds.{list_any_more}
use Rattle.bd_transitive.proofs.Ends.{no_edge}
use Rattle.bd_transitive.proofs.min_degree.EliminationGraph.of.Goals as goal

pub loop-edge-preserved : goal.loop-edge-preserved
loop-edge-preserved c =
    let es = c.args.edges.now in
    let i = c.loop-edge.edge-index in
    let e = get_or es i no_edge in
    record {
      sound = c.in_ok-add_neighbour-2.ensures.sound;
      left = λ v.
          c.in_ok-add_neighbour-2.ensures.left v
          ∙ ap (λ b. b || (e.to == v)) (c.in_ok-add_neighbour.ensures.left v ∙ ap (λ b. b || (e.from == v)) (c.loop-edge.invariant.left v))
          ∙ or_assoc _ (e.from == v) (e.to == v)
          ∙ sym (list_any_more _ es i no_edge c.loop-edge-test.true);
      joined = λ v w.
          c.in_ok-add_neighbour-2.ensures.joined v w
          ∙ ap (λ b. b || ((e.to == v) && (e.from == w))) (c.in_ok-add_neighbour.ensures.joined v w ∙ ap (λ b. b || ((e.from == v) && (e.to == w))) (c.loop-edge.invariant.joined v w))
          ∙ or_assoc _ ((e.from == v) && (e.to == w)) ((e.to == v) && (e.from == w))
          ∙ sym (list_any_more _ es i no_edge c.loop-edge-test.true);
    }
