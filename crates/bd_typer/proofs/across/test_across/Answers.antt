use Rattle.bd_text.specs.declared.code.Code.TheVariants.{NotInPipeline, FunctionDiffers}
use Rattle.bd_typer.proofs.LeastFault.{least-two_codes}
use Rattle.bd_typer.proofs.across.test_across.Goals as goal

pub returns : goal.returns
returns c = rw (least-two_codes NotInPipeline FunctionDiffers, ← c.first_missing.ensures, ← c.first_differing.ensures) c.refuse.ensures
