use Rattle.bd_text.specs.View.{nodes_of}
use Rattle.bd_syntax.specs.Forms.{ast_view}
use Rattle.bd_syntax.specs.Reading.{machine_form}
use Rattle.bd_typer.specs.Given.{IsMachineFile}
use Rattle.bd_typer.proofs.Files.{located_gives, located_holds}
use Rattle.bd_typer.proofs.ReadFiles.{machine_formed}
use Rattle.bd_typer.proofs.design.machine.Goals as goal

pub returns-clause-exact : goal.returns-clause-exact
returns-clause-exact c =
    rw c.located.ensures (located_gives ast_view c.args.file c.read_machine.result (machine_form c.args.kind (nodes_of c.args.trees.now)) c.read_machine.ensures.exact)

pub returns-clause-formed : goal.returns-clause-formed
returns-clause-formed c =
    rw c.located.ensures (located_holds (λ ast. IsMachineFile c.args.kind (ast_view ast)) c.args.file c.read_machine.result
    (machine_formed c.args.kind (nodes_of c.args.trees.now) c.read_machine.result c.requires c.read_machine.ensures.exact))
