use Rattle.std.specs.Option.{option_map}
use Rattle.bd_syntax.specs.Forms.{ast_view, invariant_view}
use Rattle.bd_typer.proofs.DenotedLawful.{given_lawful, seen_inv}
use Rattle.bd_typer.proofs.joining.join.Goals as goal

pub returns-clause-lawful : goal.returns-clause-lawful
returns-clause-lawful c =
    given_lawful c.joined_design.result (ast_view c.args.pipe.now) (ast_view c.args.spec.now) (option_map (λ inv. invariant_view inv.now) c.args.inv) c.requires.pipe c.requires.spec (seen_inv c.args.inv c.requires.inv) c.joined_design.ensures
