-- What names stand for where an expression is built, as clauses see it.
use Rattle.bd_model.specs.DesignView.{design_view}
use Rattle.bd_symbolic.specs.Symbolic.{Terms}
use Rattle.bd_symbolic.specs.declared.eval.Context as concrete

abbrev pub names_view : concrete.Context → Terms
names_view n = record {
  design = design_view n.design.now;
  entries = n.entries.now;
  inputs = n.inputs.now;
  lets = n.lets.now;
}
