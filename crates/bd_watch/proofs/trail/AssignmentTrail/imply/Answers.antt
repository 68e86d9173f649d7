use Rattle.std.proofs.Common.{◌≤◌, ◌∙◌, ◌^◌, [], ◌∷◌, ◌++◌, length, ap, arith, Some, refl}
use Rattle.std.specs.Prelude.{vec_capacity}
use Rattle.bd_watch.specs.Levels.{Assigned, assigned}
use Rattle.bd_watch.proofs.Values.{leveled_free, leveled_room, leveled_pushed, implied_places, pushed_room}
use Rattle.bd_watch.proofs.trail.AssignmentTrail.imply.Goals as goal

pub push_reserved-requires : goal.push_reserved-requires
push_reserved-requires c =
    let inside = c.self.inside in
    let free = leveled_free inside.places.items inside.entries.items c.args.self.now c.args.literal c.args.literal c.self.view_is c.requires.within c.requires.unassigned refl in
    let room = leveled_room inside.holds.items inside.places.items inside.starts.items inside.entries.items _ _ c.args.literal c.self.invariant free.0 free.1 in
    let capacity : length inside.places.items ≤ vec_capacity inside.entries = c.self.invariant.room in
    omega (arith, inside.entries.ok.0, room)

pub overflow_cast-len : goal.overflow_cast-len
overflow_cast-len c =
    let inside = c.self.inside in
    let free = leveled_free inside.places.items inside.entries.items c.args.self.now c.args.literal c.args.literal c.self.view_is c.requires.within c.requires.unassigned refl in
    let room = leveled_room inside.holds.items inside.places.items inside.starts.items inside.entries.items _ _ c.args.literal c.self.invariant free.0 free.1 in
    let packable : length inside.places.items ≤ 2 ^ 31 = c.self.invariant.packable in
    omega (arith, inside.entries.ok.0, room, c.len.ensures)

pub invariant_of-self : goal.invariant_of-self
invariant_of-self c =
    let inside = c.self.inside in
    let a : Assigned = assigned c.args.literal (Some c.args.id) in
    let free = leveled_free inside.places.items inside.entries.items c.args.self.now c.args.literal c.args.literal c.self.view_is c.requires.within c.requires.unassigned refl in
    let started = implied_places inside.starts.items inside.entries.items c.push_reserved.new.self.items a c.args.id c.self.invariant.started (c.push_reserved.ensures.items ∙ ap (λ r. inside.entries.items ++ assigned c.args.literal r ∷ []) c.clause-reason.ensures) refl in
    leveled_pushed inside.holds.items inside.places.items inside.starts.items inside.starts.items inside.entries.items c.push_reserved.new.self.items a _ _ _ _ _ _ _ c.self.invariant free c.index.ensures c.variable.ensures (c.len.ensures ∙ inside.entries.ok.0) (c.push_reserved.ensures.items ∙ ap (λ r. inside.entries.items ++ assigned c.args.literal r ∷ []) c.clause-reason.ensures) started c.push_reserved.ensures.capacity refl

pub returns-clause-room : goal.returns-clause-room
returns-clause-room c =
    let inside = c.self.inside in
    let free = leveled_free inside.places.items inside.entries.items c.args.self.now c.args.literal c.args.literal c.self.view_is c.requires.within c.requires.unassigned refl in
    let room = leveled_room inside.holds.items inside.places.items inside.starts.items inside.entries.items _ _ c.args.literal c.self.invariant free.0 free.1 in
    pushed_room inside.places.items inside.entries.items _ _ _ _ room c.push_reserved.ensures.items
