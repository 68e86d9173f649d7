use Rattle.std.proofs.Common.{◌≡◌, ◌∙◌, ◌<◌, ◌≤◌, Bool, refl, sym, ap, subst, rules, true, false, length, map, arith}
use Rattle.std.specs.Prelude.{not, ◌==◌, ◌||◌}
use Rattle.std.proofs.lemmas.List.{take_all}
use Rattle.std.proofs.lemmas.Simd.{map-map}
use Rattle.std.proofs.lemmas.Bool.{eq-eqb, ne_eqb}
use Rattle.bd_model.specs.ExprView.{expr_view, expr_views, Truth}
use Rattle.bd_model.specs.Table.{read}
use Rattle.bd_model.specs.Value.{value_of, values_of, is_true, word_of, scalar_of, scalar_word, scalar_truth, memory_of}
use Rattle.bd_model.specs.declared.expr.Expr.{the_lemmas}
use Rattle.bd_model.specs.declared.table.Scalar.{Scalar}
use Rattle.bd_model.proofs.Views.{values_of-expr_views}
use Rattle.bd_slice.proofs.Following.{ite_true, ite_false, mapped_more, read_written}
use Rattle.bd_slice.proofs.Explaining.{explains_nothing, explains_same, explains_both, explains_told, explains_after, explains_then, explains_made, explains_applied, undecided_more, undecided_none, decided_at, hold_both, hold_front, hold_back}
use Rattle.bd_slice.specs.Run.{word_at}
use Rattle.bd_slice.specs.inner.Found.{Follows, env_at, scalar_in, word_in, joined_value}
use Rattle.bd_slice.proofs.finding.+find.Goals as goal

pub find-returns-in-Bool : goal.find-returns-in-Bool
find-returns-in-Bool t c =
    let view : expr_view c.args.expr.now ≡ Truth c.in-Bool.b = rw c.in-Bool.is (search (rules, the_lemmas)) in
    rw view (explains_nothing _ _ _ _ c.plain.ensures.facts (λ env. sym c.plain.ensures.value))

pub find_after-returns : goal.find_after-returns
find_after-returns t c = explains_after _ _ _ _ _ _ c.in_ok-all.ensures.facts c.in_ok-all.ensures.value c.in_ok-found.ensures

pub find_word_after-returns : goal.find_word_after-returns
find_word_after-returns t c = explains_after _ _ _ _ _ _ c.in_ok-all.ensures.facts c.in_ok-all.ensures.value c.in_ok-found.ensures

pub find_not-returns : goal.find_not-returns
find_not-returns t c = explains_same _ (scalar_in (expr_view c.args.a.now)) _ _ _ _ _ c.valued.ensures.facts c.in_ok-part.ensures (λ env same.
    ap (λ x. Scalar.Bool (not (scalar_truth x))) same ∙ ap (λ b. Scalar.Bool (not b)) (sym c.truth.ensures) ∙ sym c.valued.ensures.value)

pub find_implies-returns-then-not-truth : goal.find_implies-returns-then-not-truth
find_implies-returns-then-not-truth t c =
    let tested : c.truth.result ≡ false = search rules in
    let told = c.in_ok-decided.ensures.facts in
    explains_told _ (scalar_in (expr_view c.args.a.now)) _ _ _ _ _ told.0 told.1 told.2 c.in_ok-p.ensures (λ env same.
    let is : is_true (value_of env (expr_view c.args.a.now)) ≡ false = ap scalar_truth same ∙ sym c.truth.ensures ∙ tested in
    ap (λ b. Scalar.Bool (not b || is_true (value_of env (expr_view c.args.b.now)))) is ∙ sym c.in_ok-decided.ensures.value)

pub find_implies-returns-then-truth : goal.find_implies-returns-then-truth
find_implies-returns-then-truth t c =
    let tested : c.truth-2.result ≡ true = search rules in
    let told = c.in_ok-decided-2.ensures.facts in
    explains_told _ (scalar_in (expr_view c.args.b.now)) _ _ _ _ _ told.0 told.1 told.2 c.in_ok-q.ensures (λ env same.
    let is : is_true (value_of env (expr_view c.args.b.now)) ≡ true = ap scalar_truth same ∙ sym c.truth-2.ensures ∙ tested in
    ap (λ b. Scalar.Bool (not (is_true (value_of env (expr_view c.args.a.now))) || b)) is ∙ by_either (is_true (value_of env (expr_view c.args.a.now))) ∙ sym c.in_ok-decided-2.ensures.value) where
      by_either : (b : Bool) → Scalar.Bool (not b || true) ≡ Scalar.Bool true
      by_either true = refl
      by_either false = refl

pub find_implies-returns : goal.find_implies-returns
find_implies-returns t c =
    let first : c.truth.result ≡ true = search rules in
    let second : c.truth-2.result ≡ false = search rules in
    explains_both _ (scalar_in (expr_view c.args.a.now)) (scalar_in (expr_view c.args.b.now)) _ _ _ _ _ _ _ c.in_ok-both.ensures.facts c.in_ok-p.ensures c.in_ok-q.ensures (λ env e f.
    let a : is_true (value_of env (expr_view c.args.a.now)) ≡ true = ap scalar_truth e ∙ sym c.truth.ensures ∙ first in
    let b : is_true (value_of env (expr_view c.args.b.now)) ≡ false = ap scalar_truth f ∙ sym c.truth-2.ensures ∙ second in
    rw (a, b) (sym c.in_ok-both.ensures.value))

pub find_iff-returns : goal.find_iff-returns
find_iff-returns t c =
    explains_both _ (scalar_in (expr_view c.args.a.now)) (scalar_in (expr_view c.args.b.now)) _ _ _ _ _ _ _ c.in_ok-both.ensures.facts c.in_ok-p.ensures c.in_ok-q.ensures (λ env e f.
    rw (e, f, c.in_ok-both.ensures.value, c.truth.ensures, c.truth-2.ensures))

pub find_equal-returns : goal.find_equal-returns
find_equal-returns t c =
    explains_both _ (scalar_in (expr_view c.args.a.now)) (scalar_in (expr_view c.args.b.now)) _ _ _ _ _ _ _ c.in_ok-both.ensures.facts c.in_ok-p.ensures c.in_ok-q.ensures (λ env e f.
    rw (e, f, c.in_ok-both.ensures.value, c.word.ensures, c.word-2.ensures))

pub find_choice-returns-in_ok-branch : goal.find_choice-returns-in_ok-branch
find_choice-returns-in_ok-branch t c =
    let tested : c.truth-taken.result ≡ true = search rules in
    let told = c.in_ok-chosen.ensures.facts in
    let chosen = explains_told _ (scalar_in (expr_view c.args.p.now)) (scalar_in (expr_view c.args.p.now)) _ _ _ _ told.0 told.1 told.2 c.in_ok-condition.ensures (λ env same. same ∙ sym c.in_ok-chosen.ensures.value) in
    explains_then _ (scalar_in (expr_view c.args.p.now)) (scalar_in (expr_view c.args.a.now)) _ _ _ _ chosen c.in_ok-branch.ensures (λ env e f.
    let is : is_true (value_of env (expr_view c.args.p.now)) ≡ true = ap scalar_truth (e ∙ c.in_ok-chosen.ensures.value) ∙ sym c.truth-taken.ensures ∙ tested in
    ap scalar_of (ite_true _ _ _ is) ∙ f)

pub find_choice-returns-in_ok-branch-2 : goal.find_choice-returns-in_ok-branch-2
find_choice-returns-in_ok-branch-2 t c =
    let tested : c.truth-taken.result ≡ false = search rules in
    let told = c.in_ok-chosen.ensures.facts in
    let chosen = explains_told _ (scalar_in (expr_view c.args.p.now)) (scalar_in (expr_view c.args.p.now)) _ _ _ _ told.0 told.1 told.2 c.in_ok-condition.ensures (λ env same. same ∙ sym c.in_ok-chosen.ensures.value) in
    explains_then _ (scalar_in (expr_view c.args.p.now)) (scalar_in (expr_view c.args.b.now)) _ _ _ _ chosen c.in_ok-branch-2.ensures (λ env e f.
    let is : is_true (value_of env (expr_view c.args.p.now)) ≡ false = ap scalar_truth (e ∙ c.in_ok-chosen.ensures.value) ∙ sym c.truth-taken.ensures ∙ tested in
    ap scalar_of (ite_false _ _ _ is) ∙ f)

pub find_word_choice-returns-in_ok-word : goal.find_word_choice-returns-in_ok-word
find_word_choice-returns-in_ok-word t c =
    let tested : c.truth-taken.result ≡ true = search rules in
    let told = c.in_ok-chosen.ensures.facts in
    let chosen = explains_told _ (scalar_in (expr_view c.args.p.now)) (scalar_in (expr_view c.args.p.now)) _ _ _ _ told.0 told.1 told.2 c.in_ok-condition.ensures (λ env same. same ∙ sym c.in_ok-chosen.ensures.value) in
    explains_then _ (scalar_in (expr_view c.args.p.now)) (word_in (expr_view c.args.a.now) c.args.address) _ _ _ _ chosen c.in_ok-word.ensures (λ env e f.
    let is : is_true (value_of env (expr_view c.args.p.now)) ≡ true = ap scalar_truth (e ∙ c.in_ok-chosen.ensures.value) ∙ sym c.truth-taken.ensures ∙ tested in
    ap (λ v. word_at v c.args.address) (ite_true _ _ _ is) ∙ f)

pub find_word_choice-returns-in_ok-word-2 : goal.find_word_choice-returns-in_ok-word-2
find_word_choice-returns-in_ok-word-2 t c =
    let tested : c.truth-taken.result ≡ false = search rules in
    let told = c.in_ok-chosen.ensures.facts in
    let chosen = explains_told _ (scalar_in (expr_view c.args.p.now)) (scalar_in (expr_view c.args.p.now)) _ _ _ _ told.0 told.1 told.2 c.in_ok-condition.ensures (λ env same. same ∙ sym c.in_ok-chosen.ensures.value) in
    explains_then _ (scalar_in (expr_view c.args.p.now)) (word_in (expr_view c.args.b.now) c.args.address) _ _ _ _ chosen c.in_ok-word-2.ensures (λ env e f.
    let is : is_true (value_of env (expr_view c.args.p.now)) ≡ false = ap scalar_truth (e ∙ c.in_ok-chosen.ensures.value) ∙ sym c.truth-taken.ensures ∙ tested in
    ap (λ v. word_at v c.args.address) (ite_false _ _ _ is) ∙ f)

pub find_read-returns : goal.find_read-returns
find_read-returns t c =
    explains_then _ (scalar_in (expr_view c.args.a.now)) (word_in (expr_view c.args.m.now) c.word-at.result) _ _ _ _ c.in_ok-address.ensures c.in_ok-word.ensures (λ env e f.
    ap (λ n. Scalar.Word (read (memory_of (value_of env (expr_view c.args.m.now))) n)) (ap scalar_word e ∙ sym c.word-at.ensures) ∙ f)

pub find_first-returns-then-has_truth : goal.find_first-returns-then-has_truth
find_first-returns-then-has_truth t c =
    let items = c.deref-part-items.result.now in
    let within : c.loop-part.part-index < length items = omega arith in
    let tested : c.has_truth.result ≡ true = search rules in
    let told = c.in_ok-decided.ensures.facts in
    explains_told _ (scalar_in (expr_view c.part-item.result)) _ _ _ _ _ told.0 (c.valued.ensures.facts ∙ told.1) (subst Follows (sym told.2) tt) c.in_ok-found.ensures (λ env same.
    let whole : values_of env (expr_views c.args.parts.now) ≡ map (λ x. value_of env (expr_view x)) items = rw (values_of-expr_views, c.deref-part-items.ensures.value) in
    let here : is_true (value_of env (expr_view c.part-item.result)) ≡ c.args.decides = ap scalar_truth same ∙ c.has_truth.ensures.yes tested in
    rw whole (ap Scalar.Bool (decided_at c.args.decides (λ x. value_of env (expr_view x)) _ _ _ within c.part-item.is here)) ∙ sym c.valued.ensures.value)

pub find_first-loop-part-init : goal.find_first-loop-part-init
find_first-loop-part-init t c = record {
  value = c.plain-all.ensures.value;
  explained = explains_nothing _ _ _ _ c.plain-all.ensures.facts (λ env. ap Scalar.Bool (undecided_none c.args.decides) ∙ sym c.plain-all.ensures.value);
}

pub find_first-loop-part-preserved : goal.find_first-loop-part-preserved
find_first-loop-part-preserved t c =
    let within : c.loop-part.part-index < length c.deref-part-items.result.now = omega arith in
    let tested : c.has_truth.result ≡ false = search rules in
    let before = c.loop-part.invariant in
    record {
      value = c.in_ok-all.ensures.value;
      explained = explains_both _ _ (scalar_in (expr_view c.part-item.result)) _ _ _ _ _ _ _ c.in_ok-all.ensures.facts before.explained c.in_ok-found.ensures (λ env e f.
          let front = ap scalar_truth (e ∙ before.value) in
          let here : is_true (value_of env (expr_view c.part-item.result)) ≡ not c.args.decides = ap scalar_truth f ∙ c.has_truth.ensures.no tested in
          ap Scalar.Bool (undecided_more c.args.decides (λ x. value_of env (expr_view x)) _ _ _ within c.part-item.is front here) ∙ sym c.in_ok-all.ensures.value);
    }

pub find_first-returns : goal.find_first-returns
find_first-returns t c =
    let items = c.deref-part-items.result.now in
    let past : length items ≤ c.loop-part.part-index = omega arith in
    let all = take_all c.loop-part.part-index items past in
    explains_same _ _ _ _ _ _ _ refl c.loop-part.invariant.explained (λ env same.
    let whole : values_of env (expr_views c.args.parts.now) ≡ map (λ x. value_of env (expr_view x)) items = rw (values_of-expr_views, c.deref-part-items.ensures.value) in
    rw whole (ap (λ ys. Scalar.Bool (joined_value c.args.decides (map (λ x. value_of env (expr_view x)) ys))) (sym all)) ∙ same)

pub find_applied-loop-arg-preserved : goal.find_applied-loop-arg-preserved
find_applied-loop-arg-preserved t c =
    let within : c.loop-arg.arg-index < length c.deref-arg-items.result.now = omega arith in
    let before = c.loop-arg.invariant in
    record {
      holds = λ d now. hold_both d _ _ _ _ c.in_ok-all.ensures.facts (before.holds d now) (c.in_ok-found.ensures.holds d now);
      words = λ d o all.
          let env = env_at d o c.args.here in
          let here = c.in_ok-found.ensures.local d o (hold_back d o _ _ _ c.in_ok-all.ensures.facts all) in
          let front = before.words d o (hold_front d o _ _ _ c.in_ok-all.ensures.facts all) in
          let word : word_of (value_of env (expr_view c.arg-item.result)) ≡ c.word.result = ap scalar_word here ∙ sym c.word.ensures in
          rw c.in_ok-push.ensures.items
          (map-map word_of (λ x. value_of env (expr_view x)) _
          ∙ mapped_more (λ x. word_of (value_of env (expr_view x))) _ _ _ _ _ within c.arg-item.is (sym (map-map word_of (λ x. value_of env (expr_view x)) _) ∙ front) word);
    }

pub find_applied-returns : goal.find_applied-returns
find_applied-returns t c =
    let items = c.deref-arg-items.result.now in
    let past : length items ≤ c.loop-arg.arg-index = omega arith in
    let all = take_all c.loop-arg.arg-index items past in
    let told = c.in_ok-applied.ensures.facts in
    explains_applied _ _ _ _ _ _ _ _ told.0 told.1 (c.in_ok-applied.ensures.value ∙ c.valued.ensures.value) told.2 (search rules)
    (λ d now. rw c.valued.ensures.facts (c.loop-arg.invariant.holds d now))
    (λ d o facts.
    let env = env_at d o c.args.here in
    let whole : values_of env (expr_views c.args.args.now) ≡ map (λ x. value_of env (expr_view x)) items = rw (values_of-expr_views, c.deref-arg-items.ensures.value) in
    rw (whole, c.from_vec.ensures) (rw all at (c.loop-arg.invariant.words d o (rw c.valued.ensures.facts at facts))))

pub find_written-returns-in_ok-put : goal.find_written-returns-in_ok-put
find_written-returns-in_ok-put t c =
    let told = c.in_ok-met.ensures.facts in
    let met = explains_told _ (scalar_in (expr_view c.args.a.now)) (scalar_in (expr_view c.args.a.now)) _ _ _ _ told.0 told.1 (subst Follows (sym told.2) tt) c.in_ok-at.ensures (λ env same. same ∙ sym c.in_ok-met.ensures.value) in
    explains_made _ (scalar_in (expr_view c.args.a.now)) (scalar_in (expr_view c.args.d.now)) _ _ _ _ _ _ c.valued.ensures.facts met c.in_ok-put.ensures (λ env e f.
    let address : (word_of (value_of env (expr_view c.args.a.now)) == c.args.address) ≡ true =
    ap (λ n. n == c.args.address) (ap scalar_word (e ∙ c.in_ok-met.ensures.value) ∙ sym c.word-written.ensures) ∙ eq-eqb _ _ c.if-written-address.true in
    ap Scalar.Word (read_written (memory_of (value_of env (expr_view c.args.m.now))) (word_of (value_of env (expr_view c.args.a.now))) (word_of (value_of env (expr_view c.args.d.now))) c.args.address true address ∙ ap scalar_word f ∙ sym c.word-word.ensures) ∙ sym c.valued.ensures.value)

pub find_written-returns-in_ok-below : goal.find_written-returns-in_ok-below
find_written-returns-in_ok-below t c =
    let told = c.in_ok-passed.ensures.facts in
    let passed = explains_told _ (scalar_in (expr_view c.args.a.now)) (scalar_in (expr_view c.args.a.now)) _ _ _ _ told.0 told.1 (subst Follows (sym told.2) tt) c.in_ok-at.ensures (λ env same. same ∙ sym c.in_ok-passed.ensures.value) in
    explains_made _ (scalar_in (expr_view c.args.a.now)) (word_in (expr_view c.args.m.now) c.args.address) _ _ _ _ _ _ refl passed c.in_ok-below.ensures (λ env e f.
    let address : (word_of (value_of env (expr_view c.args.a.now)) == c.args.address) ≡ false =
    ap (λ n. n == c.args.address) (ap scalar_word (e ∙ c.in_ok-passed.ensures.value) ∙ sym c.word-written.ensures) ∙ ne_eqb _ _ c.if-written-address.false in
    ap Scalar.Word (read_written (memory_of (value_of env (expr_view c.args.m.now))) (word_of (value_of env (expr_view c.args.a.now))) (word_of (value_of env (expr_view c.args.d.now))) c.args.address false address) ∙ f)
