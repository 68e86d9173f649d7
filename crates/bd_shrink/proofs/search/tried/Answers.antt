use Rattle.std.proofs.Common.{◌∙◌}
use Rattle.std.proofs.lemmas.Bool.{both_ways}
use Rattle.bd_shrink.proofs.Lowered.{told}
use Rattle.bd_shrink.proofs.search.tried.Goals as goal

pub returns-then-branch : goal.returns-then-branch
returns-then-branch c = (c.in_ok-less.ensures, (told c.args.question.now _ _ _ c.as_slice.ensures.value c.in_ok-shows_by.ensures).0 c.if-branch.true)

pub returns-else-branch : goal.returns-else-branch
returns-else-branch c = λ h. both_ways _ c.if-branch.false ((told c.args.question.now _ _ _ (c.as_slice.ensures.value ∙ c.in_ok-less.ensures) c.in_ok-shows_by.ensures).1 h)
