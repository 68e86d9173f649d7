use Rattle.std.proofs.Common.{◌≡◌, ◌⊎◌, ◌↔◌, Contains, subst, inl, inr}
use Rattle.bd_terms.specs.declared.node.Node.{Node}
use Rattle.bd_function.proofs.Rows.{sym_same}
use Rattle.bd_diverse.specs.inner.Applied.{AppliesSymbol}
use Rattle.bd_diverse.proofs.Applying.{adds_symbol, sym_eq}
use Rattle.bd_terms.proofs.InsertedKeys.{inserted}
use Rattle.bd_diverse.proofs.finding.add.Goals as goal

pub returns-in_ok-insert-in-App : goal.returns-in_ok-insert-in-App
returns-in_ok-insert-in-App c s =
    adds_symbol c.args.symbols.now.keys c.insert.new.self.keys c.args.node.now c.in-App.sym c.in-App.field-1 c.in-App.is
    (inserted sym_eq sym_same c.args.symbols.now.keys c.insert.new.self.keys c.in-App.sym c.in_ok-insert-in-App.ensures.keys) s
