use Rattle.std.proofs.Common.{◌≡◌, ◌∙◌, ap}
use Rattle.bd_terms.specs.declared.node.Sym.TheVariants.{Function}
use Rattle.bd_about.specs.Equations.{compared_with, is_variable_of}
use Rattle.bd_about.specs.inner.Owned.{is_owned}
use Rattle.bd_about.proofs.counting.in_formula.Goals as goal

pub returns : goal.returns
returns c =
    let syms = c.args.flat.now.syms in
    let edges = c.args.edges.now in
    let owners = c.in_ok-owners.owners in
    let same : is_owned owners ≡ is_variable_of syms = λ i s x. c.in_ok-owners.ensures s x i in
    record {
      counts = c.in_ok-applied.ensures;
      compared = record {
        size = c.in_ok-compared.ensures.size;
        each = λ f list at.
            c.in_ok-compared.ensures.lists f list at ∙ ap (λ l. compared_with (is_owned owners) edges l (Function f)) c.as_slice.ensures
            ∙ ap (λ is. compared_with is edges syms (Function f)) same;
      };
    }
