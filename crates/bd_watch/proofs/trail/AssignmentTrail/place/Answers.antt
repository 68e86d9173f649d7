use Rattle.std.proofs.Common.{◌≡◌, ◌<◌, ◌∙◌, true, length, get_or, ap, sym, subst, arith}
use Rattle.std.proofs.lemmas.List.{get_or_read}
use Rattle.bd_cnf.specs.Literal.{has_variable}
use Rattle.bd_watch.specs.Levels.{literals}
use Rattle.bd_watch.specs.Trails.{LeveledTrail, IsPlaceOf}
use Rattle.bd_watch.proofs.Fronts.{placed_variable, variable_below}
use Rattle.bd_watch.proofs.trail.AssignmentTrail.place.Goals as goal

pub index-requires : goal.index-requires
index-requires c =
    let inside = c.self.inside in
    let there = subst (λ (t : LeveledTrail). has_variable (literals t.entries) c.args.packed.var ≡ true) (sym c.self.view_is) c.requires in
    let low : c.args.packed.var < length inside.places.items = variable_below (length inside.places.items) inside.entries.items c.args.packed.var c.self.invariant.within there in
    omega (arith, c.variable.ensures, inside.places.ok.0)

pub returns : goal.returns
returns c =
    let inside = c.self.inside in
    let there = subst (λ (t : LeveledTrail). has_variable (literals t.entries) c.args.packed.var ≡ true) (sym c.self.view_is) c.requires in
    let low : c.args.packed.var < length inside.places.items = variable_below (length inside.places.items) inside.entries.items c.args.packed.var c.self.invariant.within there in
    let read : c.index.result.now ≡ get_or inside.places.items c.args.packed.var 0 = get_or_read inside.places.items c.variable.result c.index.result.now (omega (arith, c.variable.ensures)) c.index.ensures 0 ∙ ap (λ n. get_or inside.places.items n 0) c.variable.ensures in
    subst (λ (t : LeveledTrail). IsPlaceOf t.entries c.args.packed.var c.index.result.now) c.self.view_is
    (subst (IsPlaceOf inside.entries.items c.args.packed.var) (sym read) (placed_variable inside.entries.items inside.places.items c.args.packed.var c.self.invariant.placed there))
