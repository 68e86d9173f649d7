use Rattle.std.proofs.Common.{Some}
use Rattle.std.specs.Option.{option_map}
use Rattle.bd_syntax.specs.Completion.{completion_view}
use Rattle.bd_syntax.specs.Forms.{ast_view, invariant_view}
use Rattle.bd_typer.proofs.DenotedLawful.{given_both, seen_inv}
use Rattle.bd_typer.proofs.joining.join_completion.Goals as goal

pub returns-clause-lawful : goal.returns-clause-lawful
returns-clause-lawful c =
    (given_both c.joined_with.result (ast_view c.args.pipe.now) (ast_view c.args.spec.now) (Some (completion_view c.args.comp.now)) (option_map (λ inv. invariant_view inv.now) c.args.inv) c.requires.pipe c.requires.spec c.requires.comp (seen_inv c.args.inv c.requires.inv) c.joined_with.ensures).0

pub returns-clause-abstraction : goal.returns-clause-abstraction
returns-clause-abstraction c =
    (given_both c.joined_with.result (ast_view c.args.pipe.now) (ast_view c.args.spec.now) (Some (completion_view c.args.comp.now)) (option_map (λ inv. invariant_view inv.now) c.args.inv) c.requires.pipe c.requires.spec c.requires.comp (seen_inv c.args.inv c.requires.inv) c.joined_with.ensures).1
