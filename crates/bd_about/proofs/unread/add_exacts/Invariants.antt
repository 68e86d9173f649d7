use Rattle.std.proofs.Common.{map, drop}
use Rattle.bd_model.specs.DesignView.{ExactView, exact_view}
use Rattle.bd_about.specs.Named.{any_of}
use Rattle.bd_about.proofs.Marking.{Left}
use Rattle.bd_about.proofs.unread.add_exacts.Given as goal

abbrev pub invariant-loop-item : goal.invariant-loop-item
invariant-loop-item l =
    Left l.initial.marks l.marks (λ x. any_of x (map (λ (e : ExactView). e.when) (map exact_view (drop l.item-index l.items)))) (λ x. any_of x (map (λ (e : ExactView). e.when) (map exact_view l.items)))
