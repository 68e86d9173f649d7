use Rattle.std.proofs.Common.{◌≡◌, ◌<◌, ◌≤◌, ◌∙◌, ◌^◌, [], ◌∷◌, ◌++◌, length, ap, arith, None, refl}
use Rattle.std.specs.Prelude.{vec_capacity}
use Rattle.bd_watch.specs.Levels.{Assigned, assigned}
use Rattle.bd_watch.specs.Trails.{decision_places}
use Rattle.bd_watch.proofs.Values.{leveled_free, leveled_room, leveled_pushed, decided_places, places_bounded, pushed_room}
use Rattle.bd_watch.proofs.trail.AssignmentTrail.decide.Goals as goal

pub of-literal-requires : goal.of-literal-requires
of-literal-requires c =
    let free = leveled_free c.self.inside.places.items c.self.inside.entries.items c.args.self.now c.args.lit c.args.lit c.self.view_is c.requires.within c.requires.unassigned refl in
    let low : c.args.lit.var < length c.self.inside.places.items = free.0 in
    omega (arith, c.self.invariant.packable)

pub push_reserved-requires : goal.push_reserved-requires
push_reserved-requires c =
    let inside = c.self.inside in
    let free = leveled_free inside.places.items inside.entries.items c.args.self.now c.args.lit c.args.lit c.self.view_is c.requires.within c.requires.unassigned refl in
    let room = leveled_room inside.holds.items inside.places.items inside.starts.items inside.entries.items _ _ c.args.lit c.self.invariant free.0 free.1 in
    let started : inside.starts.items ≡ decision_places inside.entries.items = c.self.invariant.started in
    let size : length inside.starts.items ≡ length (decision_places inside.entries.items) = (λ i. length (started i)) in
    let bound : length (decision_places inside.entries.items) ≤ length inside.entries.items = places_bounded inside.entries.items in
    let capacity : length inside.places.items ≤ vec_capacity inside.starts = c.self.invariant.starts_room in
    omega (arith, inside.starts.ok.0, room)

pub push_reserved-requires-2 : goal.push_reserved-requires-2
push_reserved-requires-2 c =
    let inside = c.self.inside in
    let free = leveled_free inside.places.items inside.entries.items c.args.self.now c.args.lit c.args.lit c.self.view_is c.requires.within c.requires.unassigned refl in
    let room = leveled_room inside.holds.items inside.places.items inside.starts.items inside.entries.items _ _ c.args.lit c.self.invariant free.0 free.1 in
    let capacity : length inside.places.items ≤ vec_capacity inside.entries = c.self.invariant.room in
    omega (arith, inside.entries.ok.0, room)

pub overflow_cast-len : goal.overflow_cast-len
overflow_cast-len c =
    let inside = c.self.inside in
    let free = leveled_free inside.places.items inside.entries.items c.args.self.now c.args.lit c.args.lit c.self.view_is c.requires.within c.requires.unassigned refl in
    let room = leveled_room inside.holds.items inside.places.items inside.starts.items inside.entries.items _ _ c.args.lit c.self.invariant free.0 free.1 in
    let packable : length inside.places.items ≤ 2 ^ 31 = c.self.invariant.packable in
    omega (arith, inside.entries.ok.0, room, c.len-2.ensures)

pub invariant_of-self : goal.invariant_of-self
invariant_of-self c =
    let inside = c.self.inside in
    let a : Assigned = assigned c.of-literal.result None in
    let free = leveled_free inside.places.items inside.entries.items c.args.self.now c.args.lit c.of-literal.result c.self.view_is c.requires.within c.requires.unassigned c.of-literal.ensures in
    let started = decided_places inside.starts.items c.push_reserved.new.self.items _ inside.entries.items c.push_reserved-2.new.self.items a c.self.invariant.started c.push_reserved.ensures.items (c.len.ensures ∙ inside.entries.ok.0) (c.push_reserved-2.ensures.items ∙ ap (λ r. inside.entries.items ++ assigned c.of-literal.result r ∷ []) c.none.ensures) refl in
    leveled_pushed inside.holds.items inside.places.items inside.starts.items c.push_reserved.new.self.items inside.entries.items c.push_reserved-2.new.self.items a _ _ _ _ _ _ _ c.self.invariant free c.index.ensures c.variable.ensures (c.len-2.ensures ∙ inside.entries.ok.0) (c.push_reserved-2.ensures.items ∙ ap (λ r. inside.entries.items ++ assigned c.of-literal.result r ∷ []) c.none.ensures) started c.push_reserved-2.ensures.capacity c.push_reserved.ensures.capacity

pub returns-clause-room : goal.returns-clause-room
returns-clause-room c =
    let inside = c.self.inside in
    let free = leveled_free inside.places.items inside.entries.items c.args.self.now c.args.lit c.args.lit c.self.view_is c.requires.within c.requires.unassigned refl in
    let room = leveled_room inside.holds.items inside.places.items inside.starts.items inside.entries.items _ _ c.args.lit c.self.invariant free.0 free.1 in
    pushed_room inside.places.items inside.entries.items _ _ _ _ room c.push_reserved-2.ensures.items
