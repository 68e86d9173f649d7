use Rattle.std.proofs.Common.{ap, ◌∙◌}
use Rattle.std.proofs.lemmas.Result.{IfOk-weaker}
use Rattle.clap.specs.Simple.{app_of, shape_of_fields, with_subcommand}
use Rattle.bd_show.proofs.command.with_command.Goals as goal

pub returns : goal.returns
returns c =
    let local = ap (λ f. f.has_globals) c.about.ensures ∙ c.requires in
    let same = ap (with_subcommand (app_of c.args.line)) (ap shape_of_fields c.about.ensures) in
    IfOk-weaker c.subcommand.result _ _ (λ r added. added.shape local ∙ same) c.subcommand.ensures
