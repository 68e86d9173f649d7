use Rattle.std.proofs.Common.{map, sym}
use Rattle.std.specs.List.{filter_map}
use Rattle.bd_text.specs.declared.code.Code.TheVariants.{FlushOrSteps}
use Rattle.bd_syntax.specs.Forms.{item_view}
use Rattle.bd_typer.specs.Declarations.{not_once, flush_offset, steps_offset}
use Rattle.bd_typer.proofs.LeastFault.{least-one_code}
use Rattle.bd_typer.proofs.declarations.counts.Goals as goal

pub returns-in-Pipeline : goal.returns-in-Pipeline
returns-in-Pipeline c =
    let items = map item_view c.args.ast.now.items in
    let tree = c.args.ast.now.offset in
    rw (c.in-Pipeline.is, c.first_offset.ensures, c.not_once.ensures, c.not_once-in-Pipeline.ensures, c.as_slice-items.ensures)
    (sym (least-one_code FlushOrSteps (not_once tree (filter_map flush_offset items)) (not_once tree (filter_map steps_offset items))))
