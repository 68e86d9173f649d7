use Rattle.std.proofs.Common.{◌+◌, ◌<◌, [], get_or, length, sym, ap, subst, ◌∙◌, arith, take}
use Rattle.std.proofs.lemmas.List.{take_more, length-replicate}
use Rattle.bd_transitive.specs.declared.span.Span.{Span}
use Rattle.bd_transitive.specs.inner.Spans.{span}
use Rattle.bd_transitive.specs.inner.Rows.{HaveEnds}
use Rattle.bd_transitive.proofs.Pushed.{pushed_is, pushed, HaveEnds-pushed, HaveEnds-empty, length-pushed}
use Rattle.bd_transitive.proofs.fill.rows_of.Goals as goal

pub loop-span-init : goal.loop-span-init
loop-span-init c = record {
  size = ap length c.in_ok-rows.ensures ∙ length-replicate c.args.count [];
  ends = subst (λ l. HaveEnds [] l 0) (sym c.in_ok-rows.ensures) (HaveEnds-empty c.args.count 0);
}

pub loop-span-preserved : goal.loop-span-preserved
loop-span-preserved c =
    let spans = c.args.spans.now in
    let rows = c.loop-span.rows.items in
    let i = c.loop-span.span-index in
    let s : Span = get_or spans i (span 0 0) in
    let bound = c.requires i (span 0 0) (omega arith) in
    let lt : s.low < length rows = omega arith in
    let is = pushed_is rows s.low s.high c.index_mut.result.now c.push.new.self lt c.index_mut.ensures.value c.in_ok-push.ensures.ok in
    record {
      size = ap length is ∙ length-pushed rows s.low s.high ∙ c.loop-span.invariant.size;
      ends = subst (λ l. HaveEnds (take (i + 1) spans) l 0) (sym is) (subst (λ l. HaveEnds l (pushed rows s.low s.high) 0) (sym (take_more spans i (span 0 0) (omega arith))) (HaveEnds-pushed (take i spans) rows 0 s lt c.loop-span.invariant.ends));
    }
