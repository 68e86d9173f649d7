use Rattle.std.proofs.Common.{map}
use Rattle.std.specs.List.{filter_map}
use Rattle.bd_text.specs.declared.code.Code.TheVariants.{DeclaredTwice, MissingOrTwice}
use Rattle.bd_syntax.specs.Completion.{completion_view}
use Rattle.bd_syntax.specs.Forms.{ast_view, item_view}
use Rattle.bd_syntax.specs.declared.form.Spot.{Spot}
use Rattle.bd_typer.specs.Completions.{abstract_names, tree_offsets}
use Rattle.bd_typer.specs.Declarations.{declared_name, entry_name, offsets, taken_names}
use Rattle.bd_typer.specs.Repeats.{no_texts, with_names, repeated, fresh}
use Rattle.bd_typer.proofs.LeastFault.{least-at_tree, least-others}
use Rattle.bd_typer.proofs.declarations.test_completion.Goals as goal

pub returns : goal.returns
returns c =
    let comp = completion_view c.args.comp.now in
    let taken = taken_names (ast_view c.args.pipe.now) (ast_view c.args.spec.now) in
    let without = fresh (with_names no_texts (abstract_names comp)) (filter_map entry_name (map item_view c.args.spec.now.items)) in
    let twice = rw c.as_slice.ensures at c.in_ok-twice.ensures in
    let again = rw (c.new-abstracted.ensures, c.as_slice-2.ensures) at c.in_ok-again.ensures.repeated in
    let names = rw (c.new-abstracted.ensures, c.as_slice-2.ensures) at c.in_ok-again.ensures.set in
    let missing = rw (names, c.as_slice-3.ensures) at c.in_ok-missing.ensures.fresh in
    let told = rw (c.first_offset.ensures, c.at_tree.ensures, twice, again, missing, least-at_tree comp.offset (λ (name : Spot). name.offset) without) at c.refuse.ensures in
    rw (least-others DeclaredTwice MissingOrTwice (offsets (repeated taken (filter_map declared_name comp.lets))) (offsets (repeated no_texts (abstract_names comp))) (tree_offsets comp without)) told
