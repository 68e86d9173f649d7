use Rattle.std.proofs.Common.{◌+◌, List, ℕ, ap, sym, ◌∙◌, subst}
use Rattle.std.specs.FinMap as map
use Rattle.bd_lrat.specs.inner.Store.{IsOrdered, IsPlaceOf, HasNoPlace, Store, store}
use Rattle.bd_lrat.proofs.Rising.{rises_ordered}
use Rattle.bd_lrat.proofs.Stored.{standing_remove, standing_remove_missing}
use Rattle.bd_lrat.proofs.store.ClauseStore.remove.Goals as goal

pub place_of-requires : goal.place_of-requires
place_of-requires c = subst IsOrdered (sym c.deref.ensures.value) (rises_ordered 1 (c.self.inside.last + 1) c.self.inside.ids.items c.self.invariant.rising)

pub returns-in_default : goal.returns-in_default
returns-in_default c =
    let inside = c.self.inside in
    let none : HasNoPlace inside.ids.items c.args.id = subst (λ (ids : List ℕ). HasNoPlace ids c.args.id) c.deref.ensures.value c.in_default.ensures.none in
    sym c.self.view_is
    ∙ ap (store inside.last) (standing_remove_missing inside.last inside.ids.items inside.stands.items inside.clauses c.self.invariant c.args.id none)
    ∙ ap (λ (s : Store). store s.last (map.remove s.clauses c.args.id)) c.self.view_is

pub returns-in-Some : goal.returns-in-Some
returns-in-Some c =
    let inside = c.self.inside in
    let place : IsPlaceOf inside.ids.items c.args.id c.in-Some.place = subst (λ (ids : List ℕ). IsPlaceOf ids c.args.id c.in-Some.place) c.deref.ensures.value c.in-Some.ensures.some in
    ap (store inside.last) (standing_remove inside.last inside.ids.items inside.stands.items inside.clauses c.self.invariant c.in-Some.place c.args.id place.0 place.1)
    ∙ ap (λ (s : Store). store s.last (map.remove s.clauses c.args.id)) c.self.view_is
