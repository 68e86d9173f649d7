use Rattle.std.proofs.Common.{◌≡◌, length, refl, sym, subst, arith}
use Rattle.std.proofs.lemmas.Grind.{common_steps}
use Rattle.bd_terms.specs.Graph.{KeepsSymbol}
use Rattle.bd_terms.specs.declared.node.Sym.TheVariants.{Var}
use Rattle.bd_function.specs.inner.Taken.{AddsTerm}
use Rattle.bd_function.proofs.Rows.{KeepsSymbol-new}
use Rattle.bd_function.proofs.eliminate.add_variable.Goals as goal

pub variable-requires-clause-symbol : goal.variable-requires-clause-symbol
variable-requires-clause-symbol c =
    let size : length c.args.taken.now.variables.items ≡ c.len-var.result = grind (arith, common_steps) in
    subst (λ n. KeepsSymbol c.args.taken.now.graph (Var n) 0 c.args.sort) size
    (KeepsSymbol-new c.args.taken.now.graph (length c.args.taken.now.variables.items) c.args.sort c.requires.taken.applied)

pub returns : goal.returns
returns c =
    let size : length c.args.taken.now.variables.items ≡ c.len-var.result = grind (arith, common_steps) in
    record {
      term = subst (λ n. AddsTerm c.args.taken.now.graph c.variable.new.graph n c.in_ok-id.id c.args.sort) (sym size) c.in_ok-id.ensures;
      variables = c.in_ok-push.ensures.items;
      symbols = refl;
      rows = refl;
    }
