-- The case of the tables that are taken, with the sorts of the inputs of all cycles.
use Rattle.std.proofs.Common.{◌++◌, ◌∷◌, [], map, sym, ap, ◌∙◌, append-nil, append_assoc, length}
use Rattle.bd_model.specs.declared.design.Port.{Port}
use Rattle.bd_symbolic.specs.Widened.{repeated}
use Rattle.bd_function.specs.Tables.{world_of_tables}
use Rattle.bd_lift.proofs.Repeating.{repeated-sorts}
use Rattle.bd_lift.proofs.build.case_of.Goals as goal

pub loop-table-init : goal.loop-table-init
loop-table-init c =
    let ports = c.args.design.now.pipe.ports in
    let sorts = c.in_ok-sorts.ensures ∙ ap (λ l. repeated c.args.cycles (map (λ (p : Port). p.sort) l)) c.as_slice.ensures ∙ repeated-sorts c.args.cycles ports in
    ([], append-nil c.into_vec-rest.result.items ∙ c.into_vec-rest.ensures, c.in_ok-case.ensures c.args.cycles (c.deref.ensures.value ∙ sorts))

pub place-requires : goal.place-requires
place-requires c =
    let ports = c.args.design.now.pipe.ports in
    let sorts = c.in_ok-sorts.ensures ∙ ap (λ l. repeated c.args.cycles (map (λ (p : Port). p.sort) l)) c.as_slice.ensures ∙ repeated-sorts c.args.cycles ports in
    (c.args.cycles, world_of_tables c.loop-table.invariant.0, c.deref-in-Some.ensures.value ∙ sorts, c.loop-table.invariant.2)

pub loop-table-preserved : goal.loop-table-preserved
loop-table-preserved c =
    let ports = c.args.design.now.pipe.ports in
    let sorts = c.in_ok-sorts.ensures ∙ ap (λ l. repeated c.args.cycles (map (λ (p : Port). p.sort) l)) c.as_slice.ensures ∙ repeated-sorts c.args.cycles ports in
    let done = c.loop-table.invariant.0 in (
      c.in-Some.table ∷ done,
      sym (append_assoc c.pop.new.self.items (c.in-Some.table ∷ []) done) ∙ ap (λ l. l ++ done) (sym c.in-Some.ensures.items) ∙ c.loop-table.invariant.1,
      c.in_ok-place.ensures c.args.cycles (world_of_tables done) (c.deref-in-Some.ensures.value ∙ sorts) c.loop-table.invariant.2,
    )
