use Rattle.std.proofs.Common.{map}
use Rattle.std.specs.List.{filter_map}
use Rattle.bd_text.specs.declared.code.Code.TheVariants.{DeclaredTwice}
use Rattle.bd_syntax.specs.Forms.{ast_view, item_view}
use Rattle.bd_typer.specs.Declarations.{declared_name, offsets, taken_names}
use Rattle.bd_typer.specs.Repeats.{repeated}
use Rattle.bd_typer.proofs.LeastFault.{least-alone}
use Rattle.bd_typer.proofs.declarations.test_invariant.Goals as goal

pub returns : goal.returns
returns c =
    let taken = taken_names (ast_view c.args.pipe.now) (ast_view c.args.spec.now) in
    let twice = rw c.as_slice.ensures at c.in_ok-twice.ensures in
    let told = rw twice at c.refuse.ensures in
    rw (least-alone DeclaredTwice (offsets (repeated taken (filter_map declared_name (map item_view c.args.inv.now.items))))) told
