use Rattle.std.proofs.Common.{◌≡◌, ◌<◌, ◌∙◌, length, ap, sym, subst, arith, refl}
use Rattle.bd_cnf.specs.Packed.{literal_index}
use Rattle.bd_watch.specs.Levels.{Assigned}
use Rattle.bd_watch.specs.Trails.{LeveledTrail}
use Rattle.bd_watch.proofs.Values.{leveled_last, leveled_popped, undecided_places, unimplied_places}
use Rattle.bd_watch.proofs.trail.AssignmentTrail.pop.Goals as goal
use Rattle.bd_watch.proofs.trail.AssignmentTrail.pop.Goals.{then-is_none, else-is_none}

pub index_mut-requires : goal.index_mut-requires
index_mut-requires c =
    let inside = c.self.inside in
    let both = leveled_last inside.holds.items inside.places.items inside.starts.items inside.entries.items c.pop.new.self.items c.in_ok-last.last _ _ c.self.invariant c.in_ok-last.ensures.items in
    let low : literal_index c.in_ok-last.last.literal < length inside.holds.items = both.1 in
    let index : c.index.result ≡ literal_index c.in_ok-last.last.literal = c.index.ensures ∙ ap (λ (a : Assigned). literal_index a.literal) c.last.view_is in
    omega (arith, inside.holds.ok.0)

pub invariant_of-self-then-is_none : goal.invariant_of-self-then-is_none
invariant_of-self-then-is_none c =
    let inside = c.self.inside in
    let index = c.index.ensures ∙ ap (λ (a : Assigned). literal_index a.literal) c.last.view_is in
    let started = undecided_places inside.starts.items c.pop-then-is_none.new.self.items _ inside.entries.items c.pop.new.self.items c.in_ok-last.last c.reason.result c.self.invariant.started c.in_ok-last.ensures.items c.reason.ensures c.if-is_none.ensures inside.starts.ok.0 c.pop-then-is_none.ensures.rest in
    leveled_popped inside.holds.items inside.places.items inside.starts.items c.pop-then-is_none.new.self.items inside.entries.items c.pop.new.self.items c.in_ok-last.last _ _ _ _ _ c.self.invariant c.in_ok-last.ensures.items index started c.in_ok-last.ensures.capacity c.pop-then-is_none.ensures.capacity

pub invariant_of-self-else-is_none : goal.invariant_of-self-else-is_none
invariant_of-self-else-is_none c =
    let inside = c.self.inside in
    let index = c.index.ensures ∙ ap (λ (a : Assigned). literal_index a.literal) c.last.view_is in
    let started = unimplied_places inside.starts.items inside.entries.items c.pop.new.self.items c.in_ok-last.last c.reason.result c.self.invariant.started c.in_ok-last.ensures.items c.reason.ensures c.if-is_none.ensures in
    leveled_popped inside.holds.items inside.places.items inside.starts.items inside.starts.items inside.entries.items c.pop.new.self.items c.in_ok-last.last _ _ _ _ _ c.self.invariant c.in_ok-last.ensures.items index started c.in_ok-last.ensures.capacity refl

pub returns-clause-below : goal.returns-clause-below
returns-clause-below c =
    let inside = c.self.inside in
    let both = leveled_last inside.holds.items inside.places.items inside.starts.items inside.entries.items c.pop.new.self.items c.in_ok-last.last _ _ c.self.invariant c.in_ok-last.ensures.items in
    elim c.if-is_none.branch [
      | then-is_none w ↦ subst (λ (t : LeveledTrail). c.in_ok-last.last.literal.var < t.limit) (sym w.self-is) both.0
      | else-is_none w ↦ subst (λ (t : LeveledTrail). c.in_ok-last.last.literal.var < t.limit) (sym w.self-is) both.0
    ]
