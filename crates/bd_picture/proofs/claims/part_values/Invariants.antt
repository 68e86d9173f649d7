use Rattle.std.proofs.Common.{◌≡◌, ◌++◌, map, drop}
use Rattle.bd_model.specs.ExprView.{expr_view, expr_views, list_of_views}
use Rattle.bd_model.specs.Value.{value_of}
use Rattle.bd_picture.specs.Claims.{after_lets}
use Rattle.bd_picture.proofs.claims.part_values.Given as goal

abbrev pub invariant-loop-part : goal.invariant-loop-part
invariant-loop-part l =
    l.values.items ++ map (value_of (after_lets l.interp l.state l.lets)) (map expr_view (drop l.part-index l.part-items))
    ≡ map (value_of (after_lets l.interp l.state l.lets)) (list_of_views (expr_views l.parts))
