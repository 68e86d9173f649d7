use Rattle.std.proofs.Common.{◌↔◌, ◌≡◌, Contains, IsTrue, List, ap, sym, ◌∙◌, subst}
use Rattle.std.specs.List.{list_any}
use Rattle.bd_terms.specs.declared.node.Sym.{Sym}
use Rattle.bd_diverse.proofs.Applying.{list_any-exact, sym_eq}
use Rattle.bd_diverse.proofs.symbols.Positive.has.Goals as goal

pub returns : goal.returns
returns c =
    let e : c.contains.result ≡ list_any (sym_eq c.args.sym) c.args.self.now = c.contains.ensures ∙ ap (λ (l : List Sym). list_any (sym_eq c.args.sym) l) c.self.view_is in
    subst (λ b. IsTrue b ↔ Contains c.args.self.now c.args.sym) (sym e) (list_any-exact c.args.self.now c.args.sym)
