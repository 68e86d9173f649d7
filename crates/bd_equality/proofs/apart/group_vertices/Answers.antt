use Rattle.std.proofs.Common.{◌↔◌, ◌+◌, Contains, sym, ◌∙◌, subst, arith}
use Rattle.bd_equality.specs.inner.Apart.{HasVariable}
use Rattle.bd_equality.proofs.Groups.{ListsSome, ListsSome-start, ListsSome-more, ListsSome-pass, ListsSome-end}
use Rattle.bd_equality.proofs.apart.group_vertices.Goals as goal
use Rattle.bd_equality.proofs.apart.group_vertices.Goals.{in-Some+in_ok-push, in_default}

pub loop-function-init : goal.loop-function-init
loop-function-init c = ListsSome-start c.args.constants.now c.as_slice-function-items.result.now c.new-vertices.result.items c.new-vertices.ensures.items

pub loop-function-preserved : goal.loop-function-preserved
loop-function-preserved c =
    let items = c.as_slice-function-items.result.now in
    elim c.match-get.branch [
      | in-Some+in_ok-push w ↦
          subst (λ v. ListsSome c.args.constants.now items (c.loop-function.function-index + 1) v.items) (sym w.vertices-is)
          (ListsSome-more c.args.constants.now items c.loop-function.function-index w.in-Some.variable c.loop-function.vertices.items w.push.new.self.items c.loop-function.invariant (omega arith)
          (sym c.get.ensures ∙ w.in-Some.is) w.in_ok-push.ensures.items)
      | in_default w ↦
          subst (λ v. ListsSome c.args.constants.now items (c.loop-function.function-index + 1) v.items) (sym w.vertices-is)
          (ListsSome-pass c.args.constants.now items c.loop-function.function-index c.loop-function.vertices.items c.loop-function.invariant (λ y h. w.in_default.not-Some y (c.get.ensures ∙ h)))
    ]

pub returns : goal.returns
returns c x =
    subst (λ l. Contains c.loop-function.vertices.items x ↔ HasVariable c.args.constants.now l x) c.as_slice-function-items.ensures
    (ListsSome-end c.args.constants.now c.as_slice-function-items.result.now c.loop-function.function-index c.loop-function.vertices.items c.loop-function.invariant (omega arith) x)
