use Rattle.std.proofs.Common.{◌≡◌, ◌≢◌, ◌⊎◌, ◌+◌, ◌<◌, ℕ, AllPairs, Contains, refl, List, [], ◌∷◌, ◌++◌, get_or, length, inl, inr, sym, subst, ◌∙◌, arith, take, set}
use Rattle.std.proofs.lemmas.List.{take_more}
use Rattle.std.proofs.lemmas.Map.Made.{AllPairs-from_IsDistinct}
use Rattle.bd_transitive.specs.declared.span.Span.{Span}
use Rattle.bd_transitive.specs.inner.Spans.{span}
use Rattle.bd_transitive.specs.inner.Rows.{HaveEnds, JoinedToAll}
use Rattle.bd_transitive.proofs.Pushed.{pushed_is, HaveEnds-pushed, length-pushed, joined_none, joined_more, joined_added}
use Rattle.bd_transitive.proofs.SpanEq.{inserted_new, inserted_there, span_decides}
use Rattle.bd_transitive.proofs.fill.join_to_all.Goals as goal
use Rattle.bd_transitive.proofs.fill.join_to_all.Goals.{then-high-low+in_ok-insert+then-branch+in_ok-push, else-high-low, else-high-low-via-then-high-low+in_ok-insert+else-branch, else-high-low-via-else-high-low}

pub loop-high-init : goal.loop-high-init
loop-high-init c = record {
  size = refl;
  ends = λ from h. h;
  distinct = c.requires.distinct;
  joined = joined_none c.args.spans.now.keys c.args.low;
}

pub loop-high-preserved : goal.loop-high-preserved
loop-high-preserved c =
    let low = c.args.low in
    let all = c.args.all.now in
    let i = c.loop-high.high-index in
    let x = get_or all i 0 in
    let old = c.args.spans.now.keys in
    let spans = c.loop-high.spans.keys in
    let rows = c.loop-high.rows.items in
    let at_or_above = c.requires.later i 0 (omega arith) in
    let has = c.loop-high.invariant in
    let next : take (i + 1) all ≡ take i all ++ x ∷ [] = take_more all i 0 (omega arith) in
    let P = λ (keys : List Span) (items : List (List ℕ)). record {
      size : length items ≡ length c.args.rows.now.items;
      ends : (from : ℕ) → HaveEnds old c.args.rows.now.items from → HaveEnds keys items from;
      distinct : AllPairs (λ s t. s ≢ t) keys;
      joined : JoinedToAll old keys low (take (i + 1) all);
    } in
    let still = λ (done : (low ≡ x) ⊎ Contains spans (span low x)).
    let same : P spans rows = record {
      size = has.size;
      ends = has.ends;
      distinct = has.distinct;
      joined = subst (JoinedToAll old spans low) (sym next) (joined_more old spans low (take i all) x has.joined done);
    } in same in
    elim c.if-high-low.branch [
      | then-high-low+in_ok-insert+then-branch+in_ok-push w ↦
          let lt : low < length rows = omega arith in
          let is = pushed_is rows low x w.index_mut.result.now w.push.new.self lt w.index_mut.ensures.value w.in_ok-push.ensures.ok in
          let grown = inserted_new spans w.insert.new.self.keys (span low x) w.in_ok-insert.field-0 w.in_ok-insert.ensures.keys w.in_ok-insert.ensures.added w.if-branch.true in
          subst (λ s. P s.keys c.if-high-low.rows.items) (sym w.spans-is) (subst (λ v. P w.insert.new.self.keys v.items) (sym w.rows-is)
          (subst (λ k. P k (set rows low w.push.new.self)) (sym grown) (subst (P (spans ++ span low x ∷ [])) (sym is) record {
            size = length-pushed rows low x ∙ has.size;
            ends = λ from h. HaveEnds-pushed spans rows from (span low x) lt (has.ends from h);
            distinct = subst (λ k. AllPairs (λ s t. s ≢ t) k) grown (AllPairs-from_IsDistinct span_decides w.insert.new.self.keys w.in_ok-insert.ensures.unique);
            joined = subst (JoinedToAll old (spans ++ span low x ∷ []) low) (sym next) (joined_added old spans low (take i all) x has.joined (omega arith));
          })))
      | else-high-low w ↦
          elim w.else-high-low.branch [
            | else-high-low-via-then-high-low+in_ok-insert+else-branch w' ↦
                let there = inserted_there spans w'.insert.new.self.keys (span low x) w'.in_ok-insert.field-0 w'.in_ok-insert.ensures.keys w'.in_ok-insert.ensures.added w'.if-branch.false in
                subst (λ s. P s.keys c.if-high-low.rows.items) (sym (w.spans-is ∙ w'.spans-is)) (subst (λ v. P w'.insert.new.self.keys v.items) (sym w.rows-is)
                (subst (λ k. P k rows) (sym there.0) (still (inr there.1))))
            | else-high-low-via-else-high-low w' ↦
                subst (λ s. P s.keys c.if-high-low.rows.items) (sym (w.spans-is ∙ w'.spans-is)) (subst (λ v. P spans v.items) (sym w.rows-is)
                (still (inl (sym w'.if-high-low.false))))
          ]
    ]
