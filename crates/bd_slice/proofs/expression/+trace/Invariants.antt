use Rattle.std.proofs.Common.{◌≡◌, ◌+◌, ◌*◌, true, false, map, take, IsTrue}
use Rattle.std.specs.Prelude.{max}
use Rattle.std.specs.List.{list_all, list_any}
use Rattle.bd_model.specs.ExprView.{expr_view}
use Rattle.bd_model.specs.declared.expr.Expr.{size-Expr}
use Rattle.bd_model.specs.declared.expr.Exprs.{size-Exprs}
use Rattle.bd_model.specs.Value.{Env, value_of, is_true, word_of}
use Rattle.bd_slice.specs.inner.Followed.{Other, Holds, Grows}
use Rattle.bd_slice.specs.inner.Env.{FollowsNames}
use Rattle.bd_slice.proofs.expression.+trace.Given as goal

abbrev pub decreases-trace : goal.decreases-trace
decreases-trace l = 3 * size-Expr l.expr.now

abbrev pub decreases-trace_scalar : goal.decreases-trace_scalar
decreases-trace_scalar l = 3 * size-Expr l.expr.now + 1

abbrev pub decreases-trace_not : goal.decreases-trace_not
decreases-trace_not l = 3 * size-Expr l.a.now + 2

abbrev pub decreases-trace_implies : goal.decreases-trace_implies
decreases-trace_implies l = 3 * max (size-Expr l.a.now) (size-Expr l.b.now) + 2

abbrev pub decreases-trace_iff : goal.decreases-trace_iff
decreases-trace_iff l = 3 * max (size-Expr l.a.now) (size-Expr l.b.now) + 2

abbrev pub decreases-trace_equal : goal.decreases-trace_equal
decreases-trace_equal l = 3 * max (size-Expr l.a.now) (size-Expr l.b.now) + 2

abbrev pub decreases-trace_choice : goal.decreases-trace_choice
decreases-trace_choice l = 3 * max (size-Expr l.p.now) (max (size-Expr l.a.now) (size-Expr l.b.now)) + 2

abbrev pub decreases-trace_read : goal.decreases-trace_read
decreases-trace_read l = 3 * max (size-Expr l.m.now) (size-Expr l.a.now) + 2

abbrev pub decreases-trace_written : goal.decreases-trace_written
decreases-trace_written l = 3 * max (size-Expr l.m.now) (max (size-Expr l.a.now) (size-Expr l.d.now)) + 2

abbrev pub decreases-trace_applied : goal.decreases-trace_applied
decreases-trace_applied l = 3 * size-Exprs l.args.now + 2

abbrev pub decreases-trace_all : goal.decreases-trace_all
decreases-trace_all l = 3 * size-Exprs l.parts.now + 1

abbrev pub decreases-trace_any : goal.decreases-trace_any
decreases-trace_any l = 3 * size-Exprs l.parts.now + 1

abbrev pub decreases-trace_words : goal.decreases-trace_words
decreases-trace_words l = 3 * size-Exprs l.parts.now + 1

abbrev pub invariant-trace_all-loop-part : goal.invariant-trace_all-loop-part
invariant-trace_all-loop-part l = record {
  grows : Grows l.fn.graph.nodes l.graph.nodes;
  all : (o : Other) (env : Env) → Holds l.names.case.now l.graph.nodes o → FollowsNames o l.names env → IsTrue (o.has l.node)
      → list_all is_true (map (λ x. value_of env (expr_view x)) (take l.part-index l.part-items)) ≡ true;
}

abbrev pub invariant-trace_any-loop-part : goal.invariant-trace_any-loop-part
invariant-trace_any-loop-part l = record {
  grows : Grows l.fn.graph.nodes l.graph.nodes;
  none : (o : Other) (env : Env) → Holds l.names.case.now l.graph.nodes o → FollowsNames o l.names env → IsTrue (o.has l.node)
      → list_any is_true (map (λ x. value_of env (expr_view x)) (take l.part-index l.part-items)) ≡ false;
}

abbrev pub invariant-trace_words-loop-part : goal.invariant-trace_words-loop-part
invariant-trace_words-loop-part l = record {
  grows : Grows l.fn.graph.nodes l.graph.nodes;
  words : (o : Other) (env : Env) → Holds l.names.case.now l.graph.nodes o → FollowsNames o l.names env → IsTrue (o.has l.node)
      → map word_of (map (λ x. value_of env (expr_view x)) (take l.part-index l.part-items)) ≡ l.words.items;
}
