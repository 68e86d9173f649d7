use Rattle.std.proofs.Common.{◌≡◌, ◌<◌, ◌+◌, ◌-◌, ℕ, Some, length, slice_get, ap, sym, ◌∙◌, subst, arith}
use Rattle.std.proofs.lemmas.Option.{slice_get-get_or}
use Rattle.bd_equality.specs.inner.Split.{arguments_at, equations}
use Rattle.bd_equality.specs.inner.Steps.{AreKnown, IsKnown, IsNode}
use Rattle.bd_equality.proofs.Finishing.{GivesPairs, known_at, pairs_more, pairs_start}
use Rattle.bd_equality.proofs.Making.{Extends-trans}
use Rattle.bd_equality.proofs.encoding.compared.Goals as goal

pub loop-index-init : goal.loop-index-init
loop-index-init c =
    let left = c.arguments_at-left.result.now in
    let right = c.arguments_at-right.result.now in
    let alike : length left ≡ length right = ap length c.arguments_at-left.ensures ∙ c.requires.alike ∙ sym (ap length c.arguments_at-right.ensures) in
    record {
      extends = c.in_ok-all.ensures.grows;
      within = c.in_ok-all.ensures.within;
      gives = λ marked h.
          pairs_start c.args.flat.now.graph c.args.flat.now.syms marked c.args.settled.now left right c.args.prop.now c.mk_true.new.self c.in_ok-all.all (length left) (omega arith) (omega (arith, alike))
          c.in_ok-all.ensures.grows c.in_ok-all.ensures.within c.in_ok-all.ensures.form c.in_ok-all.ensures.truth;
    }

pub node-same-requires : goal.node-same-requires
node-same-requires c =
    let left = c.arguments_at-left.result.now in
    let right = c.arguments_at-right.result.now in
    let alike : length left ≡ length right = ap length c.arguments_at-left.ensures ∙ c.requires.alike ∙ sym (ap length c.arguments_at-right.ensures) in
    let k : ℕ = c.loop-index.index - 1 in
    let at_left : slice_get left k ≡ Some c.index-left-index.result = slice_get-get_or left k _ (omega arith) ∙ ap Some (sym c.index-left-index.is) in
    let inside : k < length right = omega (arith, alike) in
    let at_right : slice_get right k ≡ Some c.index-right-index.result = slice_get-get_or right k _ inside ∙ ap Some (sym c.index-right-index.is) in
    subst (IsKnown c.args.settled.now) (sym c.between.ensures)
    (known_at c.args.settled.now left right k c.index-left-index.result c.index-right-index.result at_left at_right
    (subst (λ l. AreKnown c.args.settled.now (equations l right)) (sym c.arguments_at-left.ensures)
    (subst (λ r. AreKnown c.args.settled.now (equations (arguments_at c.args.flat.now.syms c.args.pair.symbol c.args.pair.left) r)) (sym c.arguments_at-right.ensures) c.requires.parts)))

pub loop-index-preserved : goal.loop-index-preserved
loop-index-preserved c =
    let nodes = c.args.flat.now.graph in
    let syms = c.args.flat.now.syms in
    let s = c.args.settled.now in
    let p = c.args.prop.now in
    let left = c.arguments_at-left.result.now in
    let right = c.arguments_at-right.result.now in
    let alike : length left ≡ length right = ap length c.arguments_at-left.ensures ∙ c.requires.alike ∙ sym (ap length c.arguments_at-right.ensures) in
    let k : ℕ = c.loop-index.index - 1 in
    let next : c.loop-index.index ≡ k + 1 = omega arith in
    let at_left : slice_get left k ≡ Some c.index-left-index.result = slice_get-get_or left k _ (omega arith) ∙ ap Some (sym c.index-left-index.is) in
    let inside : k < length right = omega (arith, alike) in
    let at_right : slice_get right k ≡ Some c.index-right-index.result = slice_get-get_or right k _ inside ∙ ap Some (sym c.index-right-index.is) in
    let node = subst (λ w. IsNode s w c.node-same.result) c.between.ensures c.node-same.ensures in
    record {
      extends = Extends-trans p c.loop-index.prop c.mk_and.new.self c.loop-index.invariant.extends c.in_ok-all-2.ensures.grows;
      within = c.in_ok-all-2.ensures.within;
      gives = λ marked h.
          pairs_more nodes syms marked s left right p c.loop-index.prop c.mk_and.new.self k c.index-left-index.result c.index-right-index.result c.node-same.result c.loop-index.all c.in_ok-all-2.all at_left at_right h node
          (subst (λ n. GivesPairs nodes syms marked s left right p c.loop-index.prop c.loop-index.all n) next (c.loop-index.invariant.gives marked h))
          c.in_ok-all-2.ensures.grows c.in_ok-all-2.ensures.within c.in_ok-all-2.ensures.form c.in_ok-all-2.ensures.truth;
    }
