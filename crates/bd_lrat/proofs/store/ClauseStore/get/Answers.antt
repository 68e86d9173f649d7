use Rattle.std.proofs.Common.{◌≡◌, ◌+◌, List, [], ℕ, true, false, cond, Some, None, get_or, ap, sym, ◌∙◌, subst}
use Rattle.std.specs.FinMap as map
use Rattle.std.specs.Option.{option_copied}
use Rattle.bd_cnf.specs.Literal.{Literal}
use Rattle.bd_lrat.specs.inner.Store.{IsOrdered, IsPlaceOf, HasNoPlace}
use Rattle.bd_lrat.proofs.Rising.{rises_ordered}
use Rattle.bd_lrat.proofs.Stored.{get_placed, get_missing}
use Rattle.bd_lrat.proofs.store.ClauseStore.get.Goals as goal

pub place_of-requires : goal.place_of-requires
place_of-requires c = subst IsOrdered (sym c.deref.ensures.value) (rises_ordered 1 (c.self.inside.last + 1) c.self.inside.ids.items c.self.invariant.rising)

pub returns-in_err-place : goal.returns-in_err-place
returns-in_err-place c =
    let inside = c.self.inside in
    let none : HasNoPlace inside.ids.items c.args.id = subst (λ (ids : List ℕ). HasNoPlace ids c.args.id) c.deref.ensures.value c.in_err-place.ensures.none in
    ap option_copied c.from_residual.ensures
    ∙ sym (get_missing inside.last inside.ids.items inside.stands.items inside.clauses c.self.invariant c.args.id none)
    ∙ ap (λ s. map.get s.clauses c.args.id) c.self.view_is

pub returns-then-index : goal.returns-then-index
returns-then-index c =
    let inside = c.self.inside in
    let i = c.in_ok-place.place in
    let place : IsPlaceOf inside.ids.items c.args.id i = subst (λ (ids : List ℕ). IsPlaceOf ids c.args.id i) c.deref.ensures.value c.in_ok-place.ensures.some in
    let found = get_placed inside.last inside.ids.items inside.stands.items inside.clauses c.self.invariant i c.args.id c.index.result.now place.0 place.1 in
    let stands : get_or inside.stands.items i c.index.result.now ≡ true = sym c.index.ensures ∙ c.if-index.true in
    ap (λ (c : List Literal). Some c) c.get.ensures
    ∙ ap (λ b. cond b (Some (get_or inside.clauses i [])) None) (sym stands)
    ∙ sym found
    ∙ ap (λ s. map.get s.clauses c.args.id) c.self.view_is

pub returns-else-index : goal.returns-else-index
returns-else-index c =
    let inside = c.self.inside in
    let i = c.in_ok-place.place in
    let place : IsPlaceOf inside.ids.items c.args.id i = subst (λ (ids : List ℕ). IsPlaceOf ids c.args.id i) c.deref.ensures.value c.in_ok-place.ensures.some in
    let found = get_placed inside.last inside.ids.items inside.stands.items inside.clauses c.self.invariant i c.args.id c.index.result.now place.0 place.1 in
    let stands : get_or inside.stands.items i c.index.result.now ≡ false = sym c.index.ensures ∙ c.if-index.false in
    ap (λ b. cond b (Some (get_or inside.clauses i [])) None) (sym stands)
    ∙ sym found
    ∙ ap (λ s. map.get s.clauses c.args.id) c.self.view_is
