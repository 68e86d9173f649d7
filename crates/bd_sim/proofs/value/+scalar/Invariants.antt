use Rattle.std.proofs.Common.{◌≡◌, ◌++◌, map, drop}
use Rattle.std.specs.List.{list_all, list_any}
use Rattle.bd_model.specs.ExprView.{expr_view, expr_views}
use Rattle.bd_model.specs.Value.{value_of, values_of, is_true, word_of}
use Rattle.bd_sim.specs.inner.Env.{env_view}
use Rattle.bd_sim.proofs.value.+scalar.Given as goal

abbrev pub invariant-all_true-loop-part : goal.invariant-all_true-loop-part
invariant-all_true-loop-part l =
    list_all is_true (map (λ x. value_of (env_view l.env) (expr_view x)) (drop l.part-index l.part-items)) ≡ list_all is_true (values_of (env_view l.env) (expr_views l.parts))

abbrev pub invariant-any_true-loop-part : goal.invariant-any_true-loop-part
invariant-any_true-loop-part l =
    list_any is_true (map (λ x. value_of (env_view l.env) (expr_view x)) (drop l.part-index l.part-items)) ≡ list_any is_true (values_of (env_view l.env) (expr_views l.parts))

abbrev pub invariant-words-loop-part : goal.invariant-words-loop-part
invariant-words-loop-part l =
    l.words.items ++ map word_of (map (λ x. value_of (env_view l.env) (expr_view x)) (drop l.part-index l.part-items)) ≡ map word_of (values_of (env_view l.env) (expr_views l.parts))
