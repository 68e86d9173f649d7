use Rattle.bd_text.specs.View.{nodes_of}
use Rattle.bd_syntax.specs.Completion.{completion_form, completion_view}
use Rattle.bd_typer.specs.Given.{IsCompFile}
use Rattle.bd_typer.specs.declared.fault.Text.TheVariants.{Comp}
use Rattle.bd_typer.proofs.Files.{located_gives, located_holds}
use Rattle.bd_typer.proofs.ReadFiles.{comp_formed}
use Rattle.bd_typer.proofs.design.completion.Goals as goal

pub returns-clause-exact : goal.returns-clause-exact
returns-clause-exact c =
    rw c.located.ensures (located_gives completion_view Comp c.read_completion.result (completion_form (nodes_of c.args.trees.now)) c.read_completion.ensures.exact)

pub returns-clause-formed : goal.returns-clause-formed
returns-clause-formed c =
    rw c.located.ensures (located_holds (λ comp. IsCompFile (completion_view comp)) Comp c.read_completion.result
    (comp_formed c.read_completion.result c.read_completion.ensures.well_formed (c.read_completion.ensures.limited c.requires)))
