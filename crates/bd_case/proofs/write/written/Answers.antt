use Rattle.std.proofs.Common.{◌≡◌, ◌++◌, length, map, ap, sym, ◌∙◌, subst}
use Rattle.std.specs.List.{AllByRecursion}
use Rattle.std.proofs.lemmas.Slice.Zip.{AllZip-long}
use Rattle.bd_model.specs.DesignView.{port_view, design_view}
use Rattle.bd_model.specs.Fits.{TableFits, value_sort}
use Rattle.bd_model.specs.declared.design.Entry.{Entry}
use Rattle.bd_case.specs.Content.{IsShortTable, table_of_value, input_tables}
use Rattle.bd_case.proofs.WhatIsReadFits.{both_all}
use Rattle.bd_case.proofs.write.written.Goals as goal

pub returns-clause-short : goal.returns-clause-short
returns-clause-short c = λ fits.
    let d = design_view c.args.design.now in
    let interp = c.args.interp.now in
    let state = c.args.state.now in
    let tables : AllByRecursion IsShortTable interp = subst (AllByRecursion IsShortTable) c.as_slice.ensures
    (c.in_ok-push_symbols.ensures.short (ap length c.as_slice.ensures ∙ AllZip-long TableFits d.symbols interp fits.interp.tables ∙ sym (ap length c.as_slice-symbols.ensures))) in
    let values : AllByRecursion IsShortTable (map table_of_value state) = subst (λ vs. AllByRecursion IsShortTable (map table_of_value vs)) c.as_slice-3.ensures
    (c.in_ok-push_state.ensures.short (ap length c.as_slice-3.ensures ∙ AllZip-long (λ (e : Entry) v. value_sort v ≡ e.sort) d.pipe.entries state fits.state ∙ sym (ap length c.as_slice-2.ensures))) in
    let inputs : AllByRecursion IsShortTable (input_tables 0 d.pipe.ports c.args.inputs.now) =
    subst (λ ps. AllByRecursion IsShortTable (input_tables 0 (map port_view ps) c.args.inputs.now)) c.as_slice-4.ensures c.in_ok-push_inputs.ensures.short in
    both_all IsShortTable (interp ++ map table_of_value state) (input_tables 0 d.pipe.ports c.args.inputs.now) (both_all IsShortTable interp (map table_of_value state) tables values) inputs
