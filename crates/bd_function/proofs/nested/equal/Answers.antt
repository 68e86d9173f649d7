-- The equations are joined from the last on.
use Rattle.std.proofs.Common.{◌≡◌, ◌-◌, ◌<◌, ℕ, suc, length, slice_get, Some, ap, sym, ◌∙◌, subst, arith}
use Rattle.std.proofs.lemmas.Option.{slice_get-get_or}
use Rattle.std.proofs.lemmas.List.Elements.{All-contains}
use Rattle.bd_model.specs.declared.design.Sort.TheVariants as sort
use Rattle.bd_terms.specs.Graph.{HasSort}
use Rattle.bd_terms.proofs.Growth.{HasSort-Extends}
use Rattle.bd_terms.proofs.Places.{Contains-get}
use Rattle.bd_terms.specs.declared.node.Node.TheVariants.{True, And, Eq}
use Rattle.bd_walk.proofs.Building.{IsBuilt-now}
use Rattle.bd_function.specs.Flattened.{IsEquality}
use Rattle.bd_function.proofs.Nesting.{IsEqual, IsEqual-start, IsEqual-step}
use Rattle.bd_function.proofs.nested.equal.Goals as goal

pub loop-index-init : goal.loop-index-init
loop-index-init c =
    IsEqual-start c.args.graph.now c.mk_true.new.self c.args.left.now c.args.right.now c.in_ok-same.same c.requires.alike
    c.in_ok-same.ensures.extends c.in_ok-same.ensures.uses c.in_ok-same.ensures.sorted c.in_ok-same.ensures.denotes
    (IsBuilt-now c.args.graph.now c.mk_true.new.self True c.in_ok-same.same tt c.in_ok-same.ensures.simplified)

pub mk_eq-requires-clause-first : goal.mk_eq-requires-clause-first
mk_eq-requires-clause-first c =
    let k : ℕ = c.loop-index.index - 1 in
    let at : slice_get c.args.left.now k ≡ Some c.index-left-index.result = slice_get-get_or c.args.left.now k _ (omega arith) ∙ ap Some (sym c.index-left-index.is) in
    HasSort-Extends c.args.graph.now c.loop-index.graph c.loop-index.invariant.extends c.index-left-index.result sort.Word
    (All-contains (λ a. HasSort c.args.graph.now a sort.Word) c.args.left.now c.index-left-index.result c.requires.left (Contains-get c.args.left.now k c.index-left-index.result at))

pub mk_eq-requires-clause-second : goal.mk_eq-requires-clause-second
mk_eq-requires-clause-second c =
    let k : ℕ = c.loop-index.index - 1 in
    let inside : k < length c.args.right.now = omega (arith, c.requires.alike) in
    let at : slice_get c.args.right.now k ≡ Some c.index-right-index.result = slice_get-get_or c.args.right.now k _ inside ∙ ap Some (sym c.index-right-index.is) in
    HasSort-Extends c.args.graph.now c.loop-index.graph c.loop-index.invariant.extends c.index-right-index.result sort.Word
    (All-contains (λ a. HasSort c.args.graph.now a sort.Word) c.args.right.now c.index-right-index.result c.requires.right (Contains-get c.args.right.now k c.index-right-index.result at))

pub loop-index-preserved : goal.loop-index-preserved
loop-index-preserved c =
    let k : ℕ = c.loop-index.index - 1 in
    let next : c.loop-index.index ≡ suc k = omega arith in
    let inside : k < length c.args.right.now = omega (arith, c.requires.alike) in
    IsEqual-step c.args.graph.now c.loop-index.graph c.mk_eq.new.self c.mk_and.new.self c.args.left.now c.args.right.now k
    c.loop-index.same c.in_ok-equation.equation c.in_ok-same-2.same c.index-left-index.result c.index-right-index.result
    c.requires.left c.requires.right
    (slice_get-get_or c.args.left.now k _ (omega arith) ∙ ap Some (sym c.index-left-index.is))
    (slice_get-get_or c.args.right.now k _ inside ∙ ap Some (sym c.index-right-index.is))
    (subst (λ n. IsEqual c.args.graph.now c.loop-index.graph c.args.left.now c.args.right.now n c.loop-index.same) next c.loop-index.invariant)
    c.in_ok-equation.ensures.extends c.in_ok-equation.ensures.uses c.in_ok-equation.ensures.denotes
    c.in_ok-same-2.ensures.extends c.in_ok-same-2.ensures.uses c.in_ok-same-2.ensures.denotes c.in_ok-same-2.ensures.sorted
    (IsBuilt-now c.loop-index.graph c.mk_eq.new.self (Eq c.index-left-index.result c.index-right-index.result) c.in_ok-equation.equation (
      HasSort-Extends c.args.graph.now c.loop-index.graph c.loop-index.invariant.extends c.index-left-index.result sort.Word
          (All-contains (λ a. HasSort c.args.graph.now a sort.Word) c.args.left.now c.index-left-index.result c.requires.left
          (Contains-get c.args.left.now k c.index-left-index.result (slice_get-get_or c.args.left.now k _ (omega arith) ∙ ap Some (sym c.index-left-index.is)))),
      HasSort-Extends c.args.graph.now c.loop-index.graph c.loop-index.invariant.extends c.index-right-index.result sort.Word
          (All-contains (λ a. HasSort c.args.graph.now a sort.Word) c.args.right.now c.index-right-index.result c.requires.right
          (Contains-get c.args.right.now k c.index-right-index.result (slice_get-get_or c.args.right.now k _ inside ∙ ap Some (sym c.index-right-index.is)))),
    ) c.in_ok-equation.ensures.simplified)
    (IsBuilt-now c.mk_eq.new.self c.mk_and.new.self (And c.in_ok-equation.equation c.loop-index.same) c.in_ok-same-2.same
    (c.in_ok-equation.ensures.sorted, HasSort-Extends c.loop-index.graph c.mk_eq.new.self c.in_ok-equation.ensures.extends c.loop-index.same sort.Bool c.loop-index.invariant.sorted)
    c.in_ok-same-2.ensures.simplified)

pub mk_and-requires-clause-second : goal.mk_and-requires-clause-second
mk_and-requires-clause-second c = HasSort-Extends c.loop-index.graph c.mk_eq.new.self c.in_ok-equation.ensures.extends c.loop-index.same sort.Bool c.loop-index.invariant.sorted

pub returns-clause-made : goal.returns-clause-made
returns-clause-made c =
    let last : c.loop-index.index ≡ 0 = omega arith in
    (subst (λ n. IsEqual c.args.graph.now c.loop-index.graph c.args.left.now c.args.right.now n c.loop-index.same) last c.loop-index.invariant).made
