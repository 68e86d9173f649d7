use Rattle.std.proofs.Common.{◌≡◌, ◌<◌, ◌≤◌, ℕ, ◌+◌, true, false, List, Some, length, get_or, ap, sym, ◌∙◌, subst, arith, refl, inl, inr, eqb, Ok, Err}
use Rattle.std.specs.List.{list_any, slice_get}
use Rattle.std.proofs.lemmas.Bool.{cases_lt, eq-eqb}
use Rattle.std.proofs.lemmas.List.Folds.{list_any_at}
use Rattle.std.proofs.lemmas.List.Sorted.{searched}
use Rattle.bd_lrat.specs.declared.line.Hint.{Hint}
use Rattle.bd_lrat.specs.declared.line.Hint.TheVariants.{Unit as UnitHint, Rat}
use Rattle.bd_lrat.proofs.HintLists.{hint_at, hint_of, length-hints_from}
use Rattle.bd_lrat.proofs.Rising.{none_found, rises_same, rises_ordered}
use Rattle.bd_lrat.proofs.hints.Hints.get.Goals as goal

pub index-id-requires : goal.index-id-requires
index-id-requires c =
    let same : length c.args.self.now ≡ length c.self.inside.ids.items = ap length (sym c.self.view_is) ∙ length-hints_from 0 c.self.inside.ids.items c.self.inside.rats.items in
    let len = c.self.inside.ids.ok.0 in
    let below = c.requires in
    omega arith

pub returns-in-Ok : goal.returns-in-Ok
returns-in-Ok c =
    let ids = c.self.inside.ids.items in
    let rats = c.self.inside.rats.items in
    let place = c.args.place in
    let kept : c.deref.result.now ≡ rats = c.deref.ensures.value in
    let same : length c.args.self.now ≡ length ids = ap length (sym c.self.view_is) ∙ length-hints_from 0 ids rats in
    let at = hint_at 0 ids rats place place c.index-id.result.now (omega arith) (omega (arith, same, c.requires)) (rises_same 0 0 (length ids) (0 + length ids) rats refl (omega arith) c.self.invariant) in
    let rise = subst (λ (xs : List ℕ). (i j : ℕ) → i ≤ j → j < length xs → get_or xs i 0 ≤ get_or xs j 0) (sym kept) (rises_ordered 0 (length ids) rats c.self.invariant) in
    let found = searched c.deref.result.now place (Ok c.in-Ok.field-0) c.in-Ok.ensures.position rise in
    let any : list_any (λ r. eqb r place) c.deref.result.now ≡ true = list_any_at (λ r. eqb r place) c.deref.result.now c.in-Ok.field-0 0 found.0 (eq-eqb _ place found.1) in
    ap (λ (hs : List Hint). slice_get hs place) (sym c.self.view_is) ∙ at
    ∙ ap (λ b. Some (hint_of b (get_or ids place c.index-id.result.now))) (ap (list_any (λ r. eqb r place)) (sym kept) ∙ any)
    ∙ ap (λ id. Some (Rat id)) (sym c.index-id.ensures)

pub returns-in-Err : goal.returns-in-Err
returns-in-Err c =
    let ids = c.self.inside.ids.items in
    let rats = c.self.inside.rats.items in
    let place = c.args.place in
    let kept : c.deref.result.now ≡ rats = c.deref.ensures.value in
    let same : length c.args.self.now ≡ length ids = ap length (sym c.self.view_is) ∙ length-hints_from 0 ids rats in
    let at = hint_at 0 ids rats place place c.index-id.result.now (omega arith) (omega (arith, same, c.requires)) (rises_same 0 0 (length ids) (0 + length ids) rats refl (omega arith) c.self.invariant) in
    let rise = subst (λ (xs : List ℕ). (i j : ℕ) → i ≤ j → j < length xs → get_or xs i 0 ≤ get_or xs j 0) (sym kept) (rises_ordered 0 (length ids) rats c.self.invariant) in
    let found = searched c.deref.result.now place (Err c.in-Err.field-0) c.in-Err.ensures.position rise in
    let none : list_any (λ r. eqb r place) c.deref.result.now ≡ false = none_found c.deref.result.now place (λ k h e.
    elim (cases_lt k c.in-Err.field-0) [
      | inl low ↦ let apart : get_or c.deref.result.now k 0 < place = found.1 k low in omega arith
      | inr high ↦ let apart : place < get_or c.deref.result.now k 0 = found.2 k high h in omega arith
    ]) in
    ap (λ (hs : List Hint). slice_get hs place) (sym c.self.view_is) ∙ at
    ∙ ap (λ b. Some (hint_of b (get_or ids place c.index-id.result.now))) (ap (list_any (λ r. eqb r place)) (sym kept) ∙ none)
    ∙ ap (λ id. Some (UnitHint id)) (sym c.index-id.ensures)
