-- Both ends of an edge have their classes.
use Rattle.std.proofs.Common.{◌≡◌, ◌==◌, if◌then◌else◌, slice_get, Some, get_or, ap, ◌∙◌, arith}
use Rattle.std.specs.Prelude.{nat_eq}
use Rattle.std.specs.HashMap.{get}
use Rattle.std.proofs.lemmas.Option.{slice_get-get_or}
use Rattle.bd_transitive.specs.declared.graph.Edge.{Edge}
use Rattle.bd_transitive.specs.Triangle.{class_of}
use Rattle.bd_lift.proofs.Classes.{ends-more}
use Rattle.bd_lift.proofs.decode.classes_at.Goals as goal

pub loop-edge-preserved : goal.loop-edge-preserved
loop-edge-preserved c = λ x.
    let edges = c.args.edges.now in
    let i = c.loop-edge.edge-index in
    let e : Edge = get_or edges i (record { from = 0; to = 0 }) in
    let class = class_of c.args.vertices.now.keys c.args.classes.now in
    let at : slice_get edges i ≡ Some e = slice_get-get_or edges i (record { from = 0; to = 0 }) (omega arith) in
    c.in_ok-insert-2.ensures.updates.0 x
    ∙ (λ n. if e.to == x then Some (c.class_of-in-loop-edge.ensures n) else c.in_ok-insert.ensures.updates.0 x n)
    ∙ ap (λ k. if e.to == x then Some (class e.to) else (if e.from == x then Some k else get nat_eq c.loop-edge.ends x)) c.class_of.ensures
    ∙ ends-more edges i e at class x (get nat_eq c.loop-edge.ends x) (c.loop-edge.invariant x)
