use Rattle.std.proofs.Common.{◌≡◌, ◌+◌, Some, drop, slice_get, ap, sym, ◌∙◌, subst, arith}
use Rattle.std.proofs.lemmas.Option.{slice_get-get_or}
use Rattle.bd_equality.specs.inner.Rows.{RestIs, equal_words}
use Rattle.bd_equality.proofs.Equalities.{words_end, words_more}
use Rattle.bd_equality.proofs.equality.is_equality.Goals as goal

pub loop-index-init : goal.loop-index-init
loop-index-init c = record { inside = c.requires.inside; goes = λ v h. h }

pub rest_after-rest-requires : goal.rest_after-rest-requires
rest_after-rest-requires c = c.loop-index.invariant.inside

pub loop-index-preserved : goal.loop-index-preserved
loop-index-preserved c =
    let nodes = c.args.graph.now in
    let left = c.args.left.now in
    let right = c.args.right.now in
    let k = c.loop-index.index in
    let at_left : slice_get left k ≡ Some c.index-left-index.result = slice_get-get_or left k _ (omega arith) ∙ ap Some (sym c.index-left-index.is) in
    let at_right : slice_get right k ≡ Some c.index-right-index.result = slice_get-get_or right k _ (omega arith) ∙ ap Some (sym c.index-right-index.is) in
    record {
      inside = c.rest_after-rest.ensures.inside;
      goes = λ v h.
          c.loop-index.invariant.goes v
          (subst (λ b. RestIs nodes c.loop-index.rest v b) (sym (words_more nodes v left right k c.index-left-index.result c.index-right-index.result at_left at_right))
          (c.rest_after-rest.ensures.follows.follows v (equal_words nodes v (drop (k + 1) left) (drop (k + 1) right)) h));
    }

pub is_done-requires : goal.is_done-requires
is_done-requires c = c.loop-index.invariant.inside

pub returns : goal.returns
returns c = λ e v.
    c.loop-index.invariant.goes v
    (subst (λ b. RestIs c.args.graph.now c.loop-index.rest v b) (sym (words_end c.args.graph.now v c.args.left.now c.args.right.now c.loop-index.index (omega arith) (omega arith))) (c.is_done.ensures e v))
