use Rattle.std.proofs.Common.{◌≡◌, ◌<◌, ◌++◌, ◌∷◌, [], Some, length, slice_get, ap, sym, ◌∙◌, arith, append-nil}
use Rattle.std.proofs.lemmas.Option.{slice_get-get_or}
use Rattle.bd_equality.specs.declared.wanted.Visit.TheVariants.{Enter}
use Rattle.bd_equality.proofs.Passing.{pushed_all, visits_push}
use Rattle.bd_equality.proofs.parts.push_arguments.Goals as goal

pub loop-index-init : goal.loop-index-init
loop-index-init c = sym (append-nil c.args.visits.now.items)

pub loop-index-preserved : goal.loop-index-preserved
loop-index-preserved c =
    let left = c.arguments_at-left.result.now in
    let right = c.arguments_at-right.result.now in
    let alike : length left ≡ length right = ap length c.arguments_at-left.ensures ∙ c.requires ∙ sym (ap length c.arguments_at-right.ensures) in
    let k = c.loop-index.index in
    let at_left : slice_get left k ≡ Some c.index-left-index.result = slice_get-get_or left k _ (omega arith) ∙ ap Some (sym c.index-left-index.is) in
    let inside : k < length right = omega (arith, alike) in
    let at_right : slice_get right k ≡ Some c.index-right-index.result = slice_get-get_or right k _ inside ∙ ap Some (sym c.index-right-index.is) in
    visits_push c.args.visits.now.items c.loop-index.visits.items c.push.new.visits.items left right k c.index-left-index.result c.index-right-index.result c.loop-index.invariant
    (c.in_ok-push.ensures ∙ (λ i. c.loop-index.visits.items ++ Enter (c.between.ensures i) ∷ [])) at_left at_right

pub returns : goal.returns
returns c =
    let left = c.arguments_at-left.result.now in
    let right = c.arguments_at-right.result.now in
    let alike : length left ≡ length right = ap length c.arguments_at-left.ensures ∙ c.requires ∙ sym (ap length c.arguments_at-right.ensures) in
    pushed_all c.args.visits.now.items c.loop-index.visits.items left right _ _ c.loop-index.index (omega arith) (omega (arith, alike)) c.arguments_at-left.ensures c.arguments_at-right.ensures c.loop-index.invariant
