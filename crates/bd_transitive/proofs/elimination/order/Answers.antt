use Rattle.std.proofs.Common.{◌≡◌, ◌≤◌, ◌<◌, ◌∙◌, ◌↔◌, ℕ, All, Contains, length, map, take, sym, ap, subst}
use Rattle.std.specs.List.{IsDistinct}
use Rattle.std.specs.Result.{IfOk}
use Rattle.std.proofs.lemmas.Bool.Decides.{Decides-eqb}
use Rattle.std.proofs.lemmas.Map.Made.{AllPairs-from_IsDistinct, IsDistinct-from_AllPairs}
use Rattle.bd_transitive.specs.Edges.{IsEnd}
use Rattle.bd_transitive.specs.Elimination.{IsByLeastDegree, joined_by}
use Rattle.bd_transitive.specs.Orders.{IsOrder, IsFillIn}
use Rattle.bd_transitive.specs.inner.Spans.{span_of, filled_order, IsSpan, IsComplete, IsFilled}
use Rattle.bd_transitive.proofs.OrderMade.{IfOk-at, made_order, made_given, made_further, given-le}
use Rattle.bd_transitive.proofs.OrderSpans.{spans_bounded, spans_distinct}
use Rattle.bd_transitive.proofs.SpanEq.{span_eq, span_decides}
use Rattle.bd_transitive.proofs.elimination.order.Goals as goal

pub indexed-requires : goal.indexed-requires
indexed-requires c =
    let vs = c.in_ok-vertices.vertices.keys in
    let es = c.args.edges.now in
    let apart = AllPairs-from_IsDistinct Decides-eqb vs c.in_ok-vertices.ensures.distinct in
    let ends : (v : ℕ) → Contains vs v ↔ IsEnd es v = subst (λ l. (v : ℕ) → Contains vs v ↔ IsEnd l v) c.as_slice.ensures c.in_ok-vertices.ensures.ends in
    let is : c.deref.result.now ≡ map (span_of vs) es = c.deref.ensures.value ∙ c.in_ok-given.ensures ∙ ap (map (span_of vs)) c.as_slice-2.ensures in
    subst (IsDistinct span_eq) (sym is) (IsDistinct-from_AllPairs span_decides (map (span_of vs) es) (spans_distinct vs es c.requires (λ v. (ends v).1)))

pub fill-requires : goal.fill-requires
fill-requires c =
    let vs = c.in_ok-vertices.vertices.keys in
    let es = c.args.edges.now in
    let ends : (v : ℕ) → Contains vs v ↔ IsEnd es v = subst (λ l. (v : ℕ) → Contains vs v ↔ IsEnd l v) c.as_slice.ensures c.in_ok-vertices.ensures.ends in
    let is : c.in_ok-all.all.keys ≡ map (span_of vs) es = c.in_ok-all.ensures ∙ c.deref.ensures.value ∙ c.in_ok-given.ensures ∙ ap (map (span_of vs)) c.as_slice-2.ensures in
    subst (λ n. All (IsSpan n) c.in_ok-all.all.keys) (sym c.len.ensures.len) (subst (All (IsSpan (length vs))) (sym is) (spans_bounded vs es c.requires (λ v. (ends v).1)))

pub filled-requires : goal.filled-requires
filled-requires c =
    let vs = c.in_ok-vertices.vertices.keys in
    let es = c.args.edges.now in
    let all = c.fill.new.spans.keys in
    let apart = AllPairs-from_IsDistinct Decides-eqb vs c.in_ok-vertices.ensures.distinct in
    let is : c.in_ok-all.all.keys ≡ map (span_of vs) es = c.in_ok-all.ensures ∙ c.deref.ensures.value ∙ c.in_ok-given.ensures ∙ ap (map (span_of vs)) c.as_slice-2.ensures in
    let complete : IsComplete (length vs) all = subst (λ n. IsComplete n all) c.len.ensures.len c.in_ok-fill.ensures.complete in
    let filled : IsFilled (map (span_of vs) es) all = subst (λ l. IsFilled l all) is c.in_ok-fill.ensures.filled in
    record {
      given = subst (λ l. length c.as_slice-4.result.now ≤ length l) (sym c.as_slice-5.ensures.keys) (subst (λ l. length l ≤ length all) (sym c.as_slice-4.ensures) (given-le vs es all apart complete filled));
      bounded = subst (λ l. All (IsSpan (length c.as_slice-3.result.now)) l) (sym c.as_slice-5.ensures.keys) (subst (λ l. All (IsSpan (length l)) all) (sym c.as_slice-3.ensures.keys) complete.bounded);
    }

pub returns : goal.returns
returns c =
    let vs = c.in_ok-vertices.vertices.keys in
    let es = c.args.edges.now in
    let all = c.fill.new.spans.keys in
    let apart = AllPairs-from_IsDistinct Decides-eqb vs c.in_ok-vertices.ensures.distinct in
    let ends : (v : ℕ) → Contains vs v ↔ IsEnd es v = subst (λ l. (v : ℕ) → Contains vs v ↔ IsEnd l v) c.as_slice.ensures c.in_ok-vertices.ensures.ends in
    let is : c.in_ok-all.all.keys ≡ map (span_of vs) es = c.in_ok-all.ensures ∙ c.deref.ensures.value ∙ c.in_ok-given.ensures ∙ ap (map (span_of vs)) c.as_slice-2.ensures in
    let complete : IsComplete (length vs) all = subst (λ n. IsComplete n all) c.len.ensures.len c.in_ok-fill.ensures.complete in
    let filled : IsFilled (map (span_of vs) es) all = subst (λ l. IsFilled l all) is c.in_ok-fill.ensures.filled in
    let made : filled_order c.as_slice-3.result.now c.as_slice-4.result.now c.as_slice-5.result.now ≡ filled_order vs es all = λ j. filled_order (c.as_slice-3.ensures.keys j) (c.as_slice-4.ensures j) (c.as_slice-5.ensures.keys j) in
    let only : IfOk c.filled.result (λ o. o ≡ filled_order vs es all) = subst (λ m. IfOk c.filled.result (λ o. o ≡ m)) made c.filled.ensures in
    record {
      fewest = IfOk-at c.filled.result (filled_order vs es all) (λ o. IsByLeastDegree (joined_by es) o.vertices) only (subst (λ l. IsByLeastDegree (joined_by l) vs) c.as_slice.ensures c.in_ok-vertices.ensures.fewest);
      order = IfOk-at c.filled.result (filled_order vs es all) IsOrder only (made_order vs es all apart complete filled);
      vertices = IfOk-at c.filled.result (filled_order vs es all) (λ o. (v : ℕ) → Contains o.vertices v ↔ IsEnd es v) only ends;
      given = IfOk-at c.filled.result (filled_order vs es all) (λ o. take (length es) o.edges ≡ es) only (made_given vs es all apart complete filled);
      further = IfOk-at c.filled.result (filled_order vs es all) (λ o. (e : ℕ) → length es ≤ e → e < length o.edges → IsFillIn o e) only (made_further vs es all apart complete filled);
    }
