use Rattle.std.proofs.Common.{◌≡◌, ◌∙◌, ◌<◌, ◌≤◌, refl, sym, ap, rules, true, false, length, map, arith}
use Rattle.std.proofs.lemmas.List.{take_all}
use Rattle.std.proofs.lemmas.Simd.{map-map}
use Rattle.bd_model.specs.ExprView.{expr_view, expr_views, Entry, Input, Local}
use Rattle.bd_model.specs.Value.{value_of, values_of, is_true, word_of, scalar_word}
use Rattle.bd_model.specs.declared.expr.Expr.{the_lemmas}
use Rattle.bd_model.specs.declared.table.Scalar.TheVariants as scalar
use Rattle.bd_model.specs.declared.table.Value.TheVariants as value
use Rattle.bd_model.proofs.Views.{values_of-expr_views}
use Rattle.bd_slice.proofs.Following.{follows_at, follows_input, follows_memory, follows_kept, ite_true, ite_false, all_parts_more, all_parts_not, no_parts_more, some_part, mapped_more, same_truth_of}
use Rattle.bd_slice.proofs.expression.+trace.Goals as goal

pub trace-returns-in_ok-kept_at-in-Entry-clause-follows : goal.trace-returns-in_ok-kept_at-in-Entry-clause-follows
trace-returns-in_ok-kept_at-in-Entry-clause-follows t c = λ o env h f.
    let view : expr_view c.args.expr.now ≡ Entry c.in-Entry.i = rw c.in-Entry.is (search (rules, the_lemmas)) in
    rw (view, c.in_ok-kept_at-in-Entry.ensures) (follows_at o _ _ c.in-Entry.i f.state)

pub trace-returns-in-Input-clause-follows : goal.trace-returns-in-Input-clause-follows
trace-returns-in-Input-clause-follows t c = λ o env h f has.
    let view : expr_view c.args.expr.now ≡ Input c.in-Input.i = rw c.in-Input.is (search (rules, the_lemmas)) in
    let same = follows_input o _ _ c.in-Input.i f.inputs in
    rw view (ap value.Scalar ((rw (← c.traced_at.ensures) at same) has))

pub trace-returns-in_ok-kept_at-in-Local-clause-follows : goal.trace-returns-in_ok-kept_at-in-Local-clause-follows
trace-returns-in_ok-kept_at-in-Local-clause-follows t c = λ o env h f.
    let view : expr_view c.args.expr.now ≡ Local c.in-Local.i = rw c.in-Local.is (search (rules, the_lemmas)) in
    rw (view, c.in_ok-kept_at-in-Local.ensures, c.as_slice.ensures.value) (follows_at o _ _ c.in-Local.i f.locals)

pub trace_implies-returns-clause-grows : goal.trace_implies-returns-clause-grows
trace_implies-returns-clause-grows t c = λ d o h. c.in_ok-p.ensures.grows d o (c.in_ok-q.ensures.grows d o (c.in_ok-implied.ensures.grows d o h))

pub trace_implies-returns-clause-follows : goal.trace_implies-returns-clause-follows
trace_implies-returns-clause-follows t c = λ o env h f has.
    let case = c.args.names.now.case.now in
    let after = c.in_ok-implied.ensures.grows case o h in
    let p = c.in_ok-p.ensures.follows o env (c.in_ok-q.ensures.grows case o after) f in
    let q = c.in_ok-q.ensures.follows o env after f in
    ap value.Scalar (c.in_ok-implied.ensures.follows case o _ _ h p q has)

pub trace_iff-returns-clause-grows : goal.trace_iff-returns-clause-grows
trace_iff-returns-clause-grows t c = λ d o h. c.in_ok-p.ensures.grows d o (c.in_ok-q.ensures.grows d o (c.in_ok-same_truth.ensures.grows d o h))

pub trace_iff-returns-clause-follows : goal.trace_iff-returns-clause-follows
trace_iff-returns-clause-follows t c = λ o env h f has.
    let case = c.args.names.now.case.now in
    let after = c.in_ok-same_truth.ensures.grows case o h in
    let p = c.in_ok-p.ensures.follows o env (c.in_ok-q.ensures.grows case o after) f in
    let q = c.in_ok-q.ensures.follows o env after f in
    ap value.Scalar (c.in_ok-same_truth.ensures.follows case o _ _ h p q has)

pub trace_equal-returns-clause-grows : goal.trace_equal-returns-clause-grows
trace_equal-returns-clause-grows t c = λ d o h. c.in_ok-p.ensures.grows d o (c.in_ok-q.ensures.grows d o (c.in_ok-same_word.ensures.grows d o h))

pub trace_equal-returns-clause-follows : goal.trace_equal-returns-clause-follows
trace_equal-returns-clause-follows t c = λ o env h f has.
    let case = c.args.names.now.case.now in
    let after = c.in_ok-same_word.ensures.grows case o h in
    let p = c.in_ok-p.ensures.follows o env (c.in_ok-q.ensures.grows case o after) f in
    let q = c.in_ok-q.ensures.follows o env after f in
    ap value.Scalar (c.in_ok-same_word.ensures.follows case o _ _ h p q has)

pub trace_choice-returns-in_ok-chosen-clause-grows : goal.trace_choice-returns-in_ok-chosen-clause-grows
trace_choice-returns-in_ok-chosen-clause-grows t c = λ d o h. c.in_ok-condition.ensures.grows d o (c.in_ok-taken.ensures.grows d o (c.in_ok-chosen.ensures.grows d o h))

pub trace_choice-returns-in_ok-chosen-clause-follows : goal.trace_choice-returns-in_ok-chosen-clause-follows
trace_choice-returns-in_ok-chosen-clause-follows t c = λ o env h f.
    let case = c.args.names.now.case.now in
    let chosen = c.in_ok-chosen.ensures in
    let taken = c.in_ok-taken.ensures in
    let condition = c.in_ok-condition.ensures in
    let after = chosen.grows case o h in
    let tested : c.truth.result ≡ true = search rules in
    chosen.follows case o _ h (λ has.
    let is : is_true (value_of env (expr_view c.args.p.now)) ≡ true = same_truth_of _ _ _ (condition.follows o env (taken.grows case o after) f has) c.truth.ensures ∙ tested in
    rw (ite_true _ _ _ is) (taken.follows o env after f))

pub trace_choice-returns-in_ok-chosen-2-clause-grows : goal.trace_choice-returns-in_ok-chosen-2-clause-grows
trace_choice-returns-in_ok-chosen-2-clause-grows t c = λ d o h. c.in_ok-condition.ensures.grows d o (c.in_ok-taken-2.ensures.grows d o (c.in_ok-chosen-2.ensures.grows d o h))

pub trace_choice-returns-in_ok-chosen-2-clause-follows : goal.trace_choice-returns-in_ok-chosen-2-clause-follows
trace_choice-returns-in_ok-chosen-2-clause-follows t c = λ o env h f.
    let case = c.args.names.now.case.now in
    let chosen = c.in_ok-chosen-2.ensures in
    let taken = c.in_ok-taken-2.ensures in
    let condition = c.in_ok-condition.ensures in
    let after = chosen.grows case o h in
    let tested : c.truth.result ≡ false = search rules in
    chosen.follows case o _ h (λ has.
    let is : is_true (value_of env (expr_view c.args.p.now)) ≡ false = same_truth_of _ _ _ (condition.follows o env (taken.grows case o after) f has) c.truth.ensures ∙ tested in
    rw (ite_false _ _ _ is) (taken.follows o env after f))

pub trace_read-returns-clause-grows : goal.trace_read-returns-clause-grows
trace_read-returns-clause-grows t c = λ d o h. c.in_ok-trace.ensures.grows d o (c.in_ok-trace_scalar.ensures.grows d o (c.in_ok-read.ensures.grows d o h))

pub trace_read-returns-clause-follows : goal.trace_read-returns-clause-follows
trace_read-returns-clause-follows t c = λ o env h f.
    let case = c.args.names.now.case.now in
    let after = c.in_ok-read.ensures.grows case o h in
    let memory = follows_memory o _ _ (c.in_ok-trace.ensures.follows o env (c.in_ok-trace_scalar.ensures.grows case o after) f) in
    let kept = rw (← c.in_ok-memory.ensures) at memory in
    let address = c.word-address.ensures o _ (c.in_ok-trace_scalar.ensures.follows o env after f) in
    let word = c.in_ok-read.ensures.follows o _ _ h kept address in
    follows_kept o _ _ (c.scalar.ensures o _ word)

pub trace_written-returns-clause-grows : goal.trace_written-returns-clause-grows
trace_written-returns-clause-grows t c = λ d o h. c.in_ok-trace.ensures.grows d o (c.in_ok-trace_scalar.ensures.grows d o (c.in_ok-trace_scalar-2.ensures.grows d o h))

pub trace_written-returns-clause-follows : goal.trace_written-returns-clause-follows
trace_written-returns-clause-follows t c = λ o env h f.
    let case = c.args.names.now.case.now in
    let after = c.in_ok-trace_scalar-2.ensures.grows case o h in
    let memory = follows_memory o _ _ (c.in_ok-trace.ensures.follows o env (c.in_ok-trace_scalar.ensures.grows case o after) f) in
    let kept = rw (← c.in_ok-memory.ensures) at memory in
    let address = c.word-address.ensures o _ (c.in_ok-trace_scalar.ensures.follows o env after f) in
    let word = c.word-word.ensures o _ (c.in_ok-trace_scalar-2.ensures.follows o env h f) in
    (c.in_ok-written.ensures o _ _ _ kept address word, λ has. refl)

pub trace_applied-returns-clause-grows : goal.trace_applied-returns-clause-grows
trace_applied-returns-clause-grows t c = λ d o h. c.in_ok-args.ensures.grows d o (c.in_ok-applied.ensures.grows d o h)

pub trace_applied-returns-clause-follows : goal.trace_applied-returns-clause-follows
trace_applied-returns-clause-follows t c = λ o env h f has.
    let case = c.args.names.now.case.now in
    let after = c.in_ok-applied.ensures.grows case o h in
    let args = c.in_ok-args.ensures.follows o env after f in
    let same = c.in_ok-applied.ensures.follows o _ h args has in
    ap value.Scalar (rw (← f.interp) at same)

pub trace_all-returns-then-not-truth-clause-grows : goal.trace_all-returns-then-not-truth-clause-grows
trace_all-returns-then-not-truth-clause-grows t c = λ d o h. c.loop-part.invariant.grows d o (c.in_ok-traced.ensures.grows d o h)

pub trace_all-returns-then-not-truth-clause-follows : goal.trace_all-returns-then-not-truth-clause-follows
trace_all-returns-then-not-truth-clause-follows t c = λ o env h f has.
    let within : c.loop-part.part-index < length c.deref-part-items.result.now = omega arith in
    let whole : values_of env (expr_views c.args.parts.now) ≡ map (λ x. value_of env (expr_view x)) c.deref-part-items.result.now = rw (values_of-expr_views, c.deref-part-items.ensures.value) in
    let tested : c.truth.result ≡ false = search rules in
    let here : is_true (value_of env (expr_view c.part-item.result)) ≡ false = same_truth_of _ _ _ (c.in_ok-traced.ensures.follows o env h f has) c.truth.ensures ∙ tested in
    rw whole (ap scalar.Bool (all_parts_not is_true (λ x. value_of env (expr_view x)) _ _ _ within c.part-item.is here))

pub trace_all-loop-part-preserved : goal.trace_all-loop-part-preserved
trace_all-loop-part-preserved t c =
    let case = c.args.names.now.case.now in
    let within : c.loop-part.part-index < length c.deref-part-items.result.now = omega arith in
    let tested : c.truth.result ≡ true = search rules in
    record {
      grows = λ d o h. c.loop-part.invariant.grows d o (c.in_ok-traced.ensures.grows d o (c.in_ok-node.ensures.grows d o h));
      all = λ o env h f has.
          let after = c.in_ok-node.ensures.grows case o h in
          let here : is_true (value_of env (expr_view c.part-item.result)) ≡ true =
          same_truth_of _ _ _ (c.in_ok-traced.ensures.follows o env after f (c.in_ok-node.ensures.second case o h has)) c.truth.ensures ∙ tested in
          let before = c.loop-part.invariant.all o env (c.in_ok-traced.ensures.grows case o after) f (c.in_ok-node.ensures.first case o h has) in
          all_parts_more is_true (λ x. value_of env (expr_view x)) _ _ _ within c.part-item.is before here;
    }

pub trace_all-returns-clause-follows : goal.trace_all-returns-clause-follows
trace_all-returns-clause-follows t c = λ o env h f has.
    let items = c.deref-part-items.result.now in
    let past : length items ≤ c.loop-part.part-index = omega arith in
    let whole : values_of env (expr_views c.args.parts.now) ≡ map (λ x. value_of env (expr_view x)) items = rw (values_of-expr_views, c.deref-part-items.ensures.value) in
    let all = take_all c.loop-part.part-index items past in
    rw whole (ap scalar.Bool (rw all at (c.loop-part.invariant.all o env h f has)))

pub trace_any-returns-then-truth-clause-grows : goal.trace_any-returns-then-truth-clause-grows
trace_any-returns-then-truth-clause-grows t c = λ d o h. c.loop-part.invariant.grows d o (c.in_ok-traced.ensures.grows d o h)

pub trace_any-returns-then-truth-clause-follows : goal.trace_any-returns-then-truth-clause-follows
trace_any-returns-then-truth-clause-follows t c = λ o env h f has.
    let within : c.loop-part.part-index < length c.deref-part-items.result.now = omega arith in
    let whole : values_of env (expr_views c.args.parts.now) ≡ map (λ x. value_of env (expr_view x)) c.deref-part-items.result.now = rw (values_of-expr_views, c.deref-part-items.ensures.value) in
    let tested : c.truth.result ≡ true = search rules in
    let here : is_true (value_of env (expr_view c.part-item.result)) ≡ true = same_truth_of _ _ _ (c.in_ok-traced.ensures.follows o env h f has) c.truth.ensures ∙ tested in
    rw whole (ap scalar.Bool (some_part is_true (λ x. value_of env (expr_view x)) _ _ _ within c.part-item.is here))

pub trace_any-loop-part-preserved : goal.trace_any-loop-part-preserved
trace_any-loop-part-preserved t c =
    let case = c.args.names.now.case.now in
    let within : c.loop-part.part-index < length c.deref-part-items.result.now = omega arith in
    let tested : c.truth.result ≡ false = search rules in
    record {
      grows = λ d o h. c.loop-part.invariant.grows d o (c.in_ok-traced.ensures.grows d o (c.in_ok-node.ensures.grows d o h));
      none = λ o env h f has.
          let after = c.in_ok-node.ensures.grows case o h in
          let here : is_true (value_of env (expr_view c.part-item.result)) ≡ false =
          same_truth_of _ _ _ (c.in_ok-traced.ensures.follows o env after f (c.in_ok-node.ensures.second case o h has)) c.truth.ensures ∙ tested in
          let before = c.loop-part.invariant.none o env (c.in_ok-traced.ensures.grows case o after) f (c.in_ok-node.ensures.first case o h has) in
          no_parts_more is_true (λ x. value_of env (expr_view x)) _ _ _ within c.part-item.is before here;
    }

pub trace_any-returns-clause-follows : goal.trace_any-returns-clause-follows
trace_any-returns-clause-follows t c = λ o env h f has.
    let items = c.deref-part-items.result.now in
    let past : length items ≤ c.loop-part.part-index = omega arith in
    let whole : values_of env (expr_views c.args.parts.now) ≡ map (λ x. value_of env (expr_view x)) items = rw (values_of-expr_views, c.deref-part-items.ensures.value) in
    let all = take_all c.loop-part.part-index items past in
    rw whole (ap scalar.Bool (rw all at (c.loop-part.invariant.none o env h f has)))

pub trace_words-loop-part-preserved : goal.trace_words-loop-part-preserved
trace_words-loop-part-preserved t c =
    let case = c.args.names.now.case.now in
    let within : c.loop-part.part-index < length c.deref-part-items.result.now = omega arith in
    record {
      grows = λ d o h. c.loop-part.invariant.grows d o (c.in_ok-traced.ensures.grows d o (c.in_ok-node.ensures.grows d o h));
      words = λ o env h f has.
          let after = c.in_ok-node.ensures.grows case o h in
          let here = c.in_ok-traced.ensures.follows o env after f (c.in_ok-node.ensures.second case o h has) in
          let before = c.loop-part.invariant.words o env (c.in_ok-traced.ensures.grows case o after) f (c.in_ok-node.ensures.first case o h has) in
          let word : word_of (value_of env (expr_view c.part-item.result)) ≡ c.word.result = ap scalar_word here ∙ sym c.word.ensures in
          rw c.in_ok-push.ensures.items
          (map-map word_of (λ x. value_of env (expr_view x)) _
          ∙ mapped_more (λ x. word_of (value_of env (expr_view x))) _ _ _ _ _ within c.part-item.is (sym (map-map word_of (λ x. value_of env (expr_view x)) _) ∙ before) word);
    }

pub trace_words-returns-clause-follows : goal.trace_words-returns-clause-follows
trace_words-returns-clause-follows t c = λ o env h f has.
    let items = c.deref-part-items.result.now in
    let past : length items ≤ c.loop-part.part-index = omega arith in
    let whole : values_of env (expr_views c.args.parts.now) ≡ map (λ x. value_of env (expr_view x)) items = rw (values_of-expr_views, c.deref-part-items.ensures.value) in
    let all = take_all c.loop-part.part-index items past in
    rw (whole, c.from_vec.ensures) (rw all at (c.loop-part.invariant.words o env h f has))
