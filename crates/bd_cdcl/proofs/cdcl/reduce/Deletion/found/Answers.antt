use Rattle.std.proofs.Common.{◌≡◌, ◌∙◌, ℕ, ◌+◌, [], ◌∷◌, ◌++◌, is_some, ap, arith, Vec, Global}
use Rattle.bd_watch.proofs.Numbered.{numbered_at}
use Rattle.bd_cdcl.proofs.FoundClauses.{found_more, found_same, rising_differ}
use Rattle.bd_cdcl.proofs.cdcl.reduce.Deletion.found.Goals as goal
use Rattle.bd_cdcl.proofs.cdcl.reduce.Deletion.found.Goals.{then-may_delete+in_ok-push, else-may_delete}

pub may_delete-requires-clause-stands : goal.may_delete-requires-clause-stands
may_delete-requires-clause-stands c = ap is_some (numbered_at c.args.watch.now.clauses c.loop-place.place [] (omega (arith, c.len-place-end.ensures.value)))

pub loop-place-preserved : goal.loop-place-preserved
loop-place-preserved c =
    elim c.if-may_delete.branch [
      | then-may_delete+in_ok-push w ↦
          let is : c.if-may_delete.ids.items ≡ c.loop-place.ids.items ++ (c.loop-place.place + 1) ∷ [] = ap (λ (v : Vec ℕ Global). v.items) w.ids-is ∙ w.in_ok-push.ensures.items in
          found_more c.args.watch.now.clauses c.args.watch.now.trail.entries c.args.self.now.gone.items c.loop-place.ids.items c.if-may_delete.ids.items c.loop-place.place is
          c.loop-place.invariant.may w.if-may_delete.ensures.may c.loop-place.invariant.unmarked w.if-may_delete.ensures.unmarked c.loop-place.invariant.low c.loop-place.invariant.rising
      | else-may_delete w ↦
          let is : c.if-may_delete.ids.items ≡ c.loop-place.ids.items = ap (λ (v : Vec ℕ Global). v.items) w.ids-is in
          found_same c.args.watch.now.clauses c.args.watch.now.trail.entries c.args.self.now.gone.items c.loop-place.ids.items c.if-may_delete.ids.items c.loop-place.place is
          c.loop-place.invariant.may c.loop-place.invariant.unmarked c.loop-place.invariant.low c.loop-place.invariant.rising
    ]

pub returns-clause-differ : goal.returns-clause-differ
returns-clause-differ c = rising_differ c.loop-place.ids.items c.loop-place.invariant.rising
