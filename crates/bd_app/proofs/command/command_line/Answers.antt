use Rattle.std.proofs.Common.{ap₂, ◌∙◌}
use Rattle.std.proofs.lemmas.Result.{IfOk-weaker}
use Rattle.clap.specs.Simple.{with_subcommand}
use Rattle.bd_app.specs.Commands.{command_line, commands}
use Rattle.bd_app.proofs.command.command_line.Goals as goal

pub returns : goal.returns
unfolding command_line commands
returns c =
    let checks = c.in_ok-subcommand.ensures.shape c.in_ok-command.ensures.local ∙ ap₂ with_subcommand c.new.ensures.app c.in_ok-command.ensures.shape in
    let replays = c.in_ok-subcommand-2.ensures.shape c.in_ok-command-2.ensures.local ∙ ap₂ with_subcommand checks c.in_ok-command-2.ensures.shape in
    let runs = c.in_ok-subcommand-3.ensures.shape c.in_ok-command-3.ensures.local ∙ ap₂ with_subcommand replays c.in_ok-command-3.ensures.shape in
    let gens = c.in_ok-subcommand-4.ensures.shape c.in_ok-command-4.ensures.local ∙ ap₂ with_subcommand runs c.in_ok-command-4.ensures.shape in
    let rechecks = c.in_ok-subcommand-5.ensures.shape c.in_ok-command-5.ensures.local ∙ ap₂ with_subcommand gens c.in_ok-command-5.ensures.shape in
    let runs_bounded = c.in_ok-subcommand-6.ensures.shape c.in_ok-command-6.ensures.local ∙ ap₂ with_subcommand rechecks c.in_ok-command-6.ensures.shape in
    let retraces = c.in_ok-subcommand-7.ensures.shape c.in_ok-command-7.ensures.local ∙ ap₂ with_subcommand runs_bounded c.in_ok-command-7.ensures.shape in
    IfOk-weaker c.subcommand-8.result _ _ (λ r added. added.shape c.in_ok-command-8.ensures.local ∙ ap₂ with_subcommand retraces c.in_ok-command-8.ensures.shape) c.subcommand-8.ensures
