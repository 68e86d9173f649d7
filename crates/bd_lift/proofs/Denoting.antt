-- What the verdict needs of a lifted case: in its world the formula that was flattened denotes what the flat one denotes under
-- the decoded values.
use Rattle.std.proofs.Common.{ap, sym, ◌∙◌}
use Rattle.bd_model.specs.Table.{at}
use Rattle.bd_terms.specs.Denotation.{World}
use Rattle.bd_terms.proofs.Resting.{denoted-alike}
use Rattle.bd_symbolic.specs.World.{world_of}
use Rattle.bd_function.specs.Tables.{sym_tables, world_of_tables}
use Rattle.bd_function.proofs.Tabling.{tables-KeepsFirst}
use Rattle.bd_lift.specs.Lifted.{LiftedDenotes}

pub lifted-denotes : LiftedDenotes
lifted-denotes old root nodes flat_root syms order atoms c g inside flattens all flat l =
    let case : World = world_of c.interp c.state c.inputs l.addresses in
    let tables : World = world_of_tables (sym_tables l.values nodes syms) in
    denoted-alike case tables old g root inside (record {
      alike = λ u r args.
          let h = all.each u r in
          ap (λ s. at (case s) args) (sym h.same) ∙ l.alike h.holder h.listed h.row h.has args ∙ ap (λ s. at (tables s) args) h.same;
    })
    ∙ sym (flattens.means tables l.values (tables-KeepsFirst l.values nodes flat_root syms flat))
