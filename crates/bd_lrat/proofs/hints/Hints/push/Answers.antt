use Rattle.std.proofs.Common.{◌≡◌, ℕ, ◌+◌, ◌∷◌, [], ◌++◌, List, ap, sym, ◌∙◌, subst, length, arith, length-append, refl}
use Rattle.bd_lrat.specs.inner.Hints.{hints_from}
use Rattle.bd_lrat.specs.inner.Rising.{RisesWithin}
use Rattle.bd_lrat.proofs.HintLists.{hints_from-push_unit, hints_from-push_rat}
use Rattle.bd_lrat.proofs.Rising.{rises_same, rises_push, rises_more}
use Rattle.bd_lrat.proofs.hints.Hints.push.Goals as goal

pub invariant_of-self : goal.invariant_of-self
invariant_of-self c =
    let ids = c.self.inside.ids.items in
    rises_more 0 (length ids) (length c.push.new.self.items) c.self.inside.rats.items (omega (arith, ap length c.in_ok-push-in-Unit.ensures.items, length-append ids (c.in-Unit.id ∷ []))) c.self.invariant

pub returns-in_ok-push-in-Unit-clause-ok : goal.returns-in_ok-push-in-Unit-clause-ok
returns-in_ok-push-in-Unit-clause-ok c =
    let ids = c.self.inside.ids.items in
    let rats = c.self.inside.rats.items in
    ap (λ (xs : List ℕ). hints_from 0 xs rats) c.in_ok-push-in-Unit.ensures.items
    ∙ hints_from-push_unit 0 ids rats c.in-Unit.id (rises_same 0 0 (length ids) (0 + length ids) rats refl (omega arith) c.self.invariant)
    ∙ λ i. c.self.view_is i ++ sym c.in-Unit.is i ∷ []

pub invariant_of-self-in-Rat : goal.invariant_of-self-in-Rat
invariant_of-self-in-Rat c =
    let ids = c.self.inside.ids.items in
    let rats = c.self.inside.rats.items in
    let place = c.len-place.result in
    let here : place ≡ length ids = c.len-place.ensures ∙ c.self.inside.ids.ok.0 in
    let pushed : c.push_reserved.new.self.items ≡ rats ++ place ∷ [] = c.push_reserved.ensures.items ∙ ap (λ (xs : List ℕ). xs ++ place ∷ []) c.reserve.ensures.items in
    let more : length c.push-in-Rat.new.self.items ≡ length ids + 1 = omega (arith, ap length c.in_ok-push-in-Rat.ensures.items, length-append ids (c.in-Rat.id ∷ [])) in
    subst (λ (xs : List ℕ). RisesWithin 0 (length c.push-in-Rat.new.self.items) xs) (sym pushed) (
    subst (λ n. RisesWithin 0 (length c.push-in-Rat.new.self.items) (rats ++ n ∷ [])) (sym here) (
    rises_same 0 0 (length ids + 1) (length c.push-in-Rat.new.self.items) (rats ++ length ids ∷ []) refl (sym more) (rises_push 0 (length ids) rats c.self.invariant)
    )
    )

pub returns-in_ok-push-in-Rat-clause-ok : goal.returns-in_ok-push-in-Rat-clause-ok
returns-in_ok-push-in-Rat-clause-ok c =
    let ids = c.self.inside.ids.items in
    let rats = c.self.inside.rats.items in
    let place = c.len-place.result in
    let here : place ≡ length ids = c.len-place.ensures ∙ c.self.inside.ids.ok.0 in
    let pushed : c.push_reserved.new.self.items ≡ rats ++ place ∷ [] = c.push_reserved.ensures.items ∙ ap (λ (xs : List ℕ). xs ++ place ∷ []) c.reserve.ensures.items in
    (λ i. hints_from 0 (c.in_ok-push-in-Rat.ensures.items i) (pushed i))
    ∙ hints_from-push_rat 0 ids rats c.in-Rat.id place (omega arith) (rises_same 0 0 (length ids) (0 + length ids) rats refl (omega arith) c.self.invariant)
    ∙ λ i. c.self.view_is i ++ sym c.in-Rat.is i ∷ []
