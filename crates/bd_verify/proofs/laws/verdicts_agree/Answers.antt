use Rattle.bd_verify.proofs.WordsAgree.{verdicts-agree}
use Rattle.bd_verify.proofs.laws.verdicts_agree.Goals as goal

pub returns : goal.returns
returns c = verdicts-agree
