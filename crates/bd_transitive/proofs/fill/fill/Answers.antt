use Rattle.std.proofs.Common.{◌≡◌, ◌≢◌, ◌≤◌, ◌+◌, ◌<◌, ◌∙◌, ℕ, List, [], All, AllPairs, Contains, set, length, sym, subst, below_more, arith}
use Rattle.std.proofs.lemmas.List.{get_or_read, length-set}
use Rattle.std.proofs.lemmas.Map.Made.{AllPairs-from_IsDistinct}
use Rattle.bd_transitive.specs.declared.span.Span.{Span}
use Rattle.bd_transitive.specs.inner.Spans.{IsFilled, IsSpan}
use Rattle.bd_transitive.specs.inner.Rows.{row, HaveEnds, JoinedToAll}
use Rattle.bd_transitive.proofs.Filling.{IsSettled, HaveEnds-done, settled_alone, filled_none, first_later, bounded_joined, filled_joined, settled_joined, settled_now, closed_from_settled}
use Rattle.bd_transitive.proofs.SpanEq.{span_decides}
use Rattle.bd_transitive.proofs.fill.fill.Goals as goal
use Rattle.bd_transitive.proofs.fill.fill.Goals.{in-Some+in_ok-join_to_all, in_default}

pub loop-low-init : goal.loop-low-init
loop-low-init c = record {
  size = c.in_ok-rows.ensures.size;
  ends = subst (λ l. HaveEnds l c.in_ok-rows.rows.items 0) c.as_slice.ensures.keys c.in_ok-rows.ensures.ends;
  bounded = c.requires;
  distinct = AllPairs-from_IsDistinct span_decides c.args.spans.now.keys c.as_slice.ensures.unique;
  filled = filled_none c.args.spans.now.keys;
  settled = λ p lt. absurd (omega arith);
}

pub loop-low-preserved : goal.loop-low-preserved
loop-low-preserved c =
    let low = c.loop-low.low in
    let count = c.args.count in
    let given = c.args.spans.now.keys in
    let spans = c.loop-low.spans.keys in
    let rows = c.loop-low.rows.items in
    let has = c.loop-low.invariant in
    let the_row : c.as_slice-in-loop-low.result.now ≡ row rows low =
    c.as_slice-in-loop-low.ensures ∙ c.replace-row.ensures.value ∙ get_or_read rows low c.index_mut.result.now (omega arith) c.index_mut.ensures.value [] in
    let emptied : c.replace-row.new.dest ≡ [] = c.replace-row.ensures.after ∙ c.new.ensures in
    let P = λ (keys : List Span) (items : List (List ℕ)). record {
      size : length items ≡ count;
      ends : HaveEnds keys items (low + 1);
      bounded : All (IsSpan count) keys;
      distinct : AllPairs (λ s t. s ≢ t) keys;
      filled : IsFilled given keys;
      settled : (p : ℕ) → p < low + 1 → IsSettled keys p;
    } in
    elim c.match-least.branch [
      | in-Some+in_ok-join_to_all w ↦
          let parent = w.in-Some.parent in
          let new = w.join_to_all.new.spans.keys in
          let did = w.in_ok-join_to_all.ensures in
          let first : Contains (row rows low) parent = subst (λ l. Contains l parent) the_row w.in-Some.ensures.0 in
          let joined : JoinedToAll spans new parent (row rows low) = subst (JoinedToAll spans new parent) (w.as_slice-in-Some.ensures ∙ sym c.as_slice-in-loop-low.ensures ∙ the_row) did.joined in
          subst (λ s. P s.keys c.match-least.rows.items) (sym w.spans-is) (subst (λ v. P new v.items) (sym w.rows-is) record {
            size = did.size ∙ length-set rows low c.replace-row.new.dest ∙ has.size;
            ends = did.ends (low + 1) (subst (λ r. HaveEnds spans (set rows low r) (low + 1)) (sym emptied) (HaveEnds-done spans rows low has.ends));
            bounded = bounded_joined count low parent spans new rows has.ends has.bounded first joined;
            distinct = did.distinct;
            filled = filled_joined count low parent spans new rows has.ends has.bounded first joined given has.filled;
            settled = below_more (IsSettled new) low
                (λ p lt. settled_joined count low parent spans new rows has.ends has.bounded first joined p lt (has.settled p lt))
                (settled_now count low parent spans new rows has.ends has.bounded first joined);
          })
      | in_default w ↦
          let none : row rows low ≡ [] = sym the_row ∙ w.in_default.ensures in
          subst (λ s. P s.keys c.match-least.rows.items) (sym w.spans-is) (subst (λ v. P spans v.items) (sym w.rows-is) record {
            size = length-set rows low c.replace-row.new.dest ∙ has.size;
            ends = subst (λ r. HaveEnds spans (set rows low r) (low + 1)) (sym emptied) (HaveEnds-done spans rows low has.ends);
            bounded = has.bounded;
            distinct = has.distinct;
            filled = has.filled;
            settled = below_more (IsSettled spans) low has.settled (settled_alone spans rows low has.ends none);
          })
    ]

pub join_to_all-requires : goal.join_to_all-requires
join_to_all-requires c =
    let low = c.loop-low.low in
    let rows = c.loop-low.rows.items in
    let the_row : c.as_slice-in-loop-low.result.now ≡ row rows low =
    c.as_slice-in-loop-low.ensures ∙ c.replace-row.ensures.value ∙ get_or_read rows low c.index_mut.result.now (omega arith) c.index_mut.ensures.value [] in
    let first : Contains (row rows low) c.in-Some.parent = subst (λ l. Contains l c.in-Some.parent) the_row c.in-Some.ensures.0 in
    let size = length-set rows low c.replace-row.new.dest in
    let later = first_later c.args.count low c.in-Some.parent c.loop-low.spans.keys rows c.loop-low.invariant.ends c.loop-low.invariant.bounded first in
    record {
      low = omega arith;
      later = subst (All (λ n. c.in-Some.parent ≤ n)) (c.as_slice-in-loop-low.ensures ∙ sym c.as_slice-in-Some.ensures) c.in-Some.ensures.1;
      distinct = c.loop-low.invariant.distinct;
    }

pub returns-clause-complete : goal.returns-clause-complete
returns-clause-complete c =
    let has = c.loop-low.invariant in
    let spans = c.loop-low.spans.keys in
    record {
      bounded = has.bounded;
      distinct = has.distinct;
      closed = closed_from_settled c.args.count spans has.bounded (λ p lt. has.settled p (omega arith));
    }
