-- Each symbol's table has its place in the case.
use Rattle.std.proofs.Common.{◌≤◌, length, slice_get, Result, Ok, Err, OnOk, ap, sym, ◌∙◌, subst, inl, inr}
use Rattle.bd_model.specs.DesignView.{PortView, design_view}
use Rattle.bd_symbolic.specs.Widened.{widened}
use Rattle.bd_lift.specs.inner.Built.{IsBuilt, with_table}
use Rattle.bd_lift.proofs.Building.{IsBuilt-Address, IsBuilt-Entry, IsBuilt-Function, IsBuilt-Input, IsBuilt-Var}
use Rattle.bd_lift.proofs.Numbered.{length-map, length-numbered}
use Rattle.bd_lift.proofs.Repeating.{sort-there}
use Rattle.bd_lift.proofs.build.place.Goals as goal

both_ok : {X E A B C : Type 0} → (r : Result X E) → OnOk r A → OnOk r B → (A → B → C) → OnOk r C
both_ok (Ok x) a b f = f a b
both_ok (Err e) a b f = tt

pub place_function-requires : goal.place_function-requires
place_function-requires c = ap length c.requires.3.functions ∙ length-numbered _ 0 c.args.design.now.symbols ∙ sym (ap length c.as_slice-symbols.ensures)

pub place_entry-requires : goal.place_entry-requires
place_entry-requires c = ap length c.requires.3.entries ∙ length-numbered _ 0 c.args.design.now.pipe.entries ∙ sym (ap length c.as_slice-entries.ensures)

pub place_input-requires : goal.place_input-requires
place_input-requires c =
    let d = widened (design_view c.args.design.now) c.requires.0 in
    ap length c.requires.3.ports ∙ length-numbered _ 0 d.pipe.ports ∙ sym (length-map (λ (p : PortView). p.sort) d.pipe.ports) ∙ sym (ap length c.requires.2)

pub returns-in-Function : goal.returns-in-Function
returns-in-Function c = both_ok c.place_function.result c.place_function.ensures.there c.place_function.ensures.other (λ there other cycles w same b.
    subst (λ s. IsBuilt (widened (design_view c.args.design.now) cycles) (length c.args.vertices.now) (with_table w s c.args.table.table) c.place_function.new.interp.items c.args.case.now.state.items c.args.case.now.inputs.items) (sym c.in-Function.is)
    (IsBuilt-Function (widened (design_view c.args.design.now) cycles) (length c.args.vertices.now) w c.in-Function.f c.args.table.table c.args.case.now.interp.items c.args.case.now.state.items c.args.case.now.inputs.items c.place_function.new.interp.items b
    (λ y at. there y (ap (λ l. slice_get l c.in-Function.f) c.as_slice-symbols.ensures ∙ at))
    (λ out. other (subst (λ l. length l ≤ c.in-Function.f) (sym c.as_slice-symbols.ensures) out))))

pub returns-in-Entry : goal.returns-in-Entry
returns-in-Entry c = both_ok c.place_entry.result c.place_entry.ensures.there c.place_entry.ensures.other (λ there other cycles w same b.
    subst (λ s. IsBuilt (widened (design_view c.args.design.now) cycles) (length c.args.vertices.now) (with_table w s c.args.table.table) c.args.case.now.interp.items c.place_entry.new.state.items c.args.case.now.inputs.items) (sym c.in-Entry.is)
    (IsBuilt-Entry (widened (design_view c.args.design.now) cycles) (length c.args.vertices.now) w c.in-Entry.i c.args.table.table c.args.case.now.interp.items c.args.case.now.state.items c.args.case.now.inputs.items c.place_entry.new.state.items b
    (λ y at. there y (ap (λ l. slice_get l c.in-Entry.i) c.as_slice-entries.ensures ∙ at))
    (λ out. other (subst (λ l. length l ≤ c.in-Entry.i) (sym c.as_slice-entries.ensures) out))))

pub returns-in-Input : goal.returns-in-Input
returns-in-Input c = λ cycles w same b.
    let d = widened (design_view c.args.design.now) cycles in
    subst (λ s. IsBuilt d (length c.args.vertices.now) (with_table w s c.args.table.table) c.args.case.now.interp.items c.args.case.now.state.items c.place_input.new.inputs.items) (sym c.in-Input.is)
    (IsBuilt-Input d (length c.args.vertices.now) w c.in-Input.i c.args.table.table c.args.case.now.interp.items c.args.case.now.state.items c.args.case.now.inputs.items c.place_input.new.inputs.items b
    (λ p at. c.place_input.ensures.there p.sort (ap (λ l. slice_get l c.in-Input.i) same ∙ sort-there d.pipe.ports c.in-Input.i p at))
    (λ out. c.place_input.ensures.other (subst (λ l. length l ≤ c.in-Input.i) (sym same) (subst (λ n. n ≤ c.in-Input.i) (sym (length-map (λ (p : PortView). p.sort) d.pipe.ports)) out))))

pub returns-in-Address : goal.returns-in-Address
returns-in-Address c = λ cycles w same b. elim c.in-Address.is [
  | inl h ↦
      subst (λ s. IsBuilt (widened (design_view c.args.design.now) cycles) (length c.args.vertices.now) (with_table w s c.args.table.table) c.args.case.now.interp.items c.args.case.now.state.items c.args.case.now.inputs.items) (sym h.1)
      (IsBuilt-Address (widened (design_view c.args.design.now) cycles) (length c.args.vertices.now) w h.0 c.args.table.table c.args.case.now.interp.items c.args.case.now.state.items c.args.case.now.inputs.items b)
  | inr h ↦
      subst (λ s. IsBuilt (widened (design_view c.args.design.now) cycles) (length c.args.vertices.now) (with_table w s c.args.table.table) c.args.case.now.interp.items c.args.case.now.state.items c.args.case.now.inputs.items) (sym h.1)
      (IsBuilt-Var (widened (design_view c.args.design.now) cycles) (length c.args.vertices.now) w h.0 c.args.table.table c.args.case.now.interp.items c.args.case.now.state.items c.args.case.now.inputs.items b)
]
