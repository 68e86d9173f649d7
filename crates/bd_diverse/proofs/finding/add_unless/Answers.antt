use Rattle.std.proofs.Common.{◌≡◌, ◌⊎◌, ◌↔◌, ◌∙◌, sym, Contains, false, true, true≢false}
use Rattle.bd_function.proofs.Rows.{sym_same}
use Rattle.bd_diverse.proofs.Applying.{adds_symbol_unless, keeps_symbols, list_any-exact, sym_eq}
use Rattle.bd_terms.proofs.InsertedKeys.{inserted}
use Rattle.bd_diverse.proofs.finding.add_unless.Goals as goal

pub returns-in_ok-insert-in-App : goal.returns-in_ok-insert-in-App
returns-in_ok-insert-in-App c s =
    adds_symbol_unless c.args.symbols.now.keys c.insert.new.self.keys c.args.others.now.keys c.args.node.now c.in-App.sym c.in-App.field-1 c.in-App.is
    (λ h. true≢false (sym ((list_any-exact c.args.others.now.keys c.in-App.sym).1 h) ∙ sym c.contains.ensures ∙ c.if-not-contains.true))
    (inserted sym_eq sym_same c.args.symbols.now.keys c.insert.new.self.keys c.in-App.sym c.in_ok-insert-in-App.ensures.keys) s

pub returns-else-not-contains : goal.returns-else-not-contains
returns-else-not-contains c s =
    keeps_symbols c.args.symbols.now.keys c.args.others.now.keys c.args.node.now c.in-App.sym c.in-App.field-1 c.in-App.is
    ((list_any-exact c.args.others.now.keys c.in-App.sym).0 (sym c.contains.ensures ∙ c.if-not-contains.false)) s
