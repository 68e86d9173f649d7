use Rattle.std.proofs.Common.{Some}
use Rattle.bd_text.specs.View.{nodes_of}
use Rattle.bd_syntax.specs.Forms.{invariant_view}
use Rattle.bd_syntax.specs.declared.ast.InvAst.{InvAst}
use Rattle.bd_typer.specs.Denotes.{premise_form, premise_head}
use Rattle.bd_typer.specs.Given.{IsInvFile}
use Rattle.bd_typer.specs.declared.fault.Text.TheVariants.{Inv}
use Rattle.bd_typer.specs.declared.premise.Premise.TheVariants as premises
use Rattle.bd_typer.proofs.Files.{located_gives, located_holds}
use Rattle.bd_typer.proofs.ReadFiles.{inv_formed, third_gives}
use Rattle.bd_typer.proofs.design.invariant.Goals as goal

pub returns-clause-exact : goal.returns-clause-exact
returns-clause-exact c =
    let trees = nodes_of c.args.trees.now in
    rw c.located.ensures (located_gives (λ (inv : InvAst). Some (invariant_view inv)) Inv c.read_invariant.result (premise_form premises.Invariant (Some trees)) (third_gives premises.Invariant trees c.read_invariant.result c.read_invariant.ensures.exact))

pub returns-clause-formed : goal.returns-clause-formed
returns-clause-formed c =
    rw c.located.ensures (located_holds (λ inv. IsInvFile (invariant_view inv)) Inv c.read_invariant.result
    (inv_formed (premise_head premises.Invariant) (nodes_of c.args.trees.now) c.read_invariant.result c.requires c.read_invariant.ensures.exact))
