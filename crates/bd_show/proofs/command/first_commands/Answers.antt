use Rattle.std.proofs.Common.{ap, ap₂, ◌∙◌, true}
use Rattle.std.proofs.lemmas.Result.{IfOk-weaker}
use Rattle.clap.specs.Simple.{app_of_fields, on_top, with_subcommand}
use Rattle.bd_show.proofs.command.first_commands.Goals as goal

pub returns : goal.returns
returns c =
    let bare = ap app_of_fields c.version-bare.ensures ∙ ap (on_top (λ s. record s { has_version = true })) c.new.ensures.app in
    let checks = c.in_ok-with_check.ensures ∙ ap₂ with_subcommand bare c.in_ok-check_command.ensures.shape in
    let shows = c.in_ok-with_show.ensures ∙ ap₂ with_subcommand checks c.in_ok-show_command.ensures.shape in
    IfOk-weaker c.with_command-3.result _ _ (λ r added. added ∙ ap₂ with_subcommand shows c.in_ok-shrink_command.ensures.shape) c.with_command-3.ensures
