use Rattle.std.proofs.Common.{◌+◌, Some, slice_get, ap, sym, ◌∙◌, subst, arith, option_copied}
use Rattle.std.proofs.lemmas.Bool.{true≢false}
use Rattle.bd_equality.specs.Encoding.{has_mark}
use Rattle.bd_equality.specs.inner.Means.{node_variable}
use Rattle.bd_equality.proofs.Vertices.{HasVertices, HasVertices-start, HasVertices-more, HasVertices-pass, HasVertices-end}
use Rattle.bd_equality.proofs.apart.vertices.Goals as goal
use Rattle.bd_equality.proofs.apart.vertices.Goals.{in-App+then-not-has_mark+in_ok-insert, in-App+else-not-has_mark, in_default}

pub loop-index-init : goal.loop-index-init
loop-index-init c = HasVertices-start c.args.flat.now.graph (option_copied c.args.marked) c.new-vertices.result c.new-vertices.ensures

pub loop-index-preserved : goal.loop-index-preserved
loop-index-preserved c =
    let nodes = c.args.flat.now.graph in
    let marked = option_copied c.args.marked in
    let there = ap (slice_get nodes) (sym c.id.ensures) ∙ c.node.ensures.node in
    elim c.match-node.branch [
      | in-App+then-not-has_mark+in_ok-insert w ↦
          subst (HasVertices nodes marked (c.loop-index.index + 1)) (sym w.vertices-is)
          (HasVertices-more nodes marked c.loop-index.index c.node.ensures.graph c.args.flat.now.root c.args.flat.now.syms c.args.flat.now.flat w.in-App.sym w.in-App.field-1 w.symbol_variable-variable.result c.loop-index.vertices w.insert.new.self c.loop-index.invariant
          (there ∙ ap Some w.in-App.is) w.symbol_variable-variable.ensures (sym w.has_mark.ensures ∙ w.if-not-has_mark.true) w.in_ok-insert.ensures.ok)
      | in-App+else-not-has_mark w ↦
          subst (HasVertices nodes marked (c.loop-index.index + 1)) (sym w.vertices-is)
          (HasVertices-pass nodes marked c.loop-index.index c.loop-index.vertices c.node.result.now c.loop-index.invariant there
          (λ x args e m.
          let same = w.symbol_variable-variable.ensures ∙ ap node_variable (sym w.in-App.is ∙ e) in
          true≢false (sym (sym w.has_mark.ensures ∙ w.if-not-has_mark.false) ∙ ap (has_mark marked) same ∙ m)))
      | in_default w ↦
          subst (HasVertices nodes marked (c.loop-index.index + 1)) (sym w.vertices-is)
          (HasVertices-pass nodes marked c.loop-index.index c.loop-index.vertices c.node.result.now c.loop-index.invariant there (λ x args e m. absurd (w.in_default.not-App _ args e)))
    ]

pub returns : goal.returns
returns c = HasVertices-end c.args.flat.now.graph (option_copied c.args.marked) c.loop-index.index c.loop-index.vertices c.loop-index.invariant (omega (arith, c.len-index-end.ensures.len))
