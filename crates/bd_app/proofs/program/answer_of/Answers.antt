use Rattle.std.proofs.Common.{ap, Err}
use Rattle.bd_app.specs.Words.{texts_of}
use Rattle.bd_app.specs.inner.Asked.{asked}
use Rattle.bd_app.proofs.Answered.{done_for, done_no_usage, done_report, not_taken, words_done, words_fail}
use Rattle.bd_app.proofs.program.answer_of.Goals as goal

pub returns-in_err-command-clause-usage_only : goal.returns-in_err-command-clause-usage_only
returns-in_err-command-clause-usage_only g c = λ is. c.in_err-command.ensures.usage (ap (λ e. Err e) (not_taken c.from_residual.result _ c.from_residual.ensures.1 is))

pub returns-in_err-command-clause-usage : goal.returns-in_err-command-clause-usage
returns-in_err-command-clause-usage g c = λ none. words_fail c.from_residual.result _ c.from_residual.ensures.1

pub returns-in_err-command-clause-done : goal.returns-in_err-command-clause-done
returns-in_err-command-clause-done g c = words_done (texts_of c.args.words.now) c.from_residual.result _ _ c.from_residual.ensures.1 (λ is. c.in_err-command.ensures.usage (ap (λ e. Err e) is))

pub returns-clause-usage_only : goal.returns-clause-usage_only
returns-clause-usage_only g c = λ is. absurd (done_no_usage (asked c.in_ok-command.command) _ _ c.answered.result c.answered.ensures is)

pub returns-clause-report : goal.returns-clause-report
returns-clause-report g c = done_report (asked c.in_ok-command.command) _ _ c.answered.result c.answered.ensures

pub returns-clause-done : goal.returns-clause-done
returns-clause-done g c = done_for (texts_of c.args.words.now) (asked c.in_ok-command.command) _ _ c.answered.result c.in_ok-command.ensures.asked c.answered.ensures

pub returns-clause-never_falls : goal.returns-clause-never_falls
returns-clause-never_falls g c = c.answered.ensures.effects.never_falls
