use Rattle.std.proofs.Common.{◌≡◌, ◌+◌, ◌*◌, map, take}
use Rattle.std.specs.Prelude.{max, not}
use Rattle.bd_model.specs.DesignView.{DesignView}
use Rattle.bd_model.specs.ExprView.{expr_view}
use Rattle.bd_model.specs.Value.{Env, value_of, word_of}
use Rattle.bd_model.specs.declared.case.Case.{Case}
use Rattle.bd_model.specs.declared.table.Scalar.{Scalar}
use Rattle.bd_slice.specs.Reasons.{AllHold}
use Rattle.bd_slice.specs.inner.Found.{IsAt, Explained, env_at, joined_value}
use Rattle.bd_model.specs.declared.expr.Expr.{size-Expr}
use Rattle.bd_model.specs.declared.expr.Exprs.{size-Exprs}
use Rattle.bd_slice.proofs.finding.+find.Given as goal

abbrev pub decreases-find : goal.decreases-find
decreases-find l = 4 * size-Expr l.expr.now

abbrev pub decreases-find_part : goal.decreases-find_part
decreases-find_part l = 4 * size-Expr l.expr.now + 1

abbrev pub decreases-find_after : goal.decreases-find_after
decreases-find_after l = 4 * size-Expr l.expr.now + 2

abbrev pub decreases-find_not : goal.decreases-find_not
decreases-find_not l = 4 * size-Expr l.a.now + 2

abbrev pub decreases-find_first : goal.decreases-find_first
decreases-find_first l = 4 * size-Exprs l.parts.now + 2

abbrev pub decreases-find_implies : goal.decreases-find_implies
decreases-find_implies l = 4 * max (size-Expr l.a.now) (size-Expr l.b.now) + 2

abbrev pub decreases-find_iff : goal.decreases-find_iff
decreases-find_iff l = 4 * max (size-Expr l.a.now) (size-Expr l.b.now) + 2

abbrev pub decreases-find_equal : goal.decreases-find_equal
decreases-find_equal l = 4 * max (size-Expr l.a.now) (size-Expr l.b.now) + 2

abbrev pub decreases-find_choice : goal.decreases-find_choice
decreases-find_choice l = 4 * max (size-Expr l.p.now) (max (size-Expr l.a.now) (size-Expr l.b.now)) + 3

abbrev pub decreases-find_read : goal.decreases-find_read
decreases-find_read l = 4 * max (size-Expr l.m.now) (size-Expr l.a.now) + 2

abbrev pub decreases-find_applied : goal.decreases-find_applied
decreases-find_applied l = 4 * size-Exprs l.args.now + 2

abbrev pub decreases-find_word : goal.decreases-find_word
decreases-find_word l = 4 * size-Expr l.expr.now

abbrev pub decreases-find_word_after : goal.decreases-find_word_after
decreases-find_word_after l = 4 * size-Expr l.expr.now + 1

abbrev pub decreases-find_word_choice : goal.decreases-find_word_choice
decreases-find_word_choice l = 4 * max (size-Expr l.p.now) (max (size-Expr l.a.now) (size-Expr l.b.now)) + 3

abbrev pub decreases-find_written : goal.decreases-find_written
decreases-find_written l = 4 * max (size-Expr l.m.now) (max (size-Expr l.a.now) (size-Expr l.d.now)) + 3

abbrev pub invariant-find_first-loop-part : goal.invariant-find_first-loop-part
invariant-find_first-loop-part l = record {
  value : l.all.value ≡ Scalar.Bool (not l.decides);
  explained : Explained l.here (λ (env : Env). Scalar.Bool (joined_value l.decides (map (λ x. value_of env (expr_view x)) (take l.part-index l.part-items)))) l.all;
}

abbrev pub invariant-find_applied-loop-arg : goal.invariant-find_applied-loop-arg
invariant-find_applied-loop-arg l = record {
  holds : (d : DesignView) → IsAt d l.here → AllHold d l.here.case.now l.all.facts.items;
  words : (d : DesignView) (o : Case) → AllHold d o l.all.facts.items
      → map word_of (map (λ x. value_of (env_at d o l.here) (expr_view x)) (take l.arg-index l.arg-items)) ≡ l.words.items;
}
