use Rattle.bd_typer.proofs.DenotedLawful.{read_lawful}
use Rattle.bd_typer.proofs.design.design_with.Goals as goal

pub returns-clause-lawful : goal.returns-clause-lawful
returns-clause-lawful c = read_lawful c.denoted.result c.args.premise c.args.pipe.now c.args.spec.now c.args.third c.requires.pipe c.requires.spec c.requires.third c.denoted.ensures
