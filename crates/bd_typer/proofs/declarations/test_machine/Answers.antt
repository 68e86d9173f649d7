use Rattle.std.proofs.Common.{map}
use Rattle.std.specs.List.{filter_map}
use Rattle.bd_text.specs.declared.code.Code.TheVariants.{DeclaredTwice, MissingOrTwice}
use Rattle.bd_syntax.specs.Forms.{item_view}
use Rattle.bd_typer.specs.Declarations.{count_faults, declared_name, entry_name, next_name, offsets}
use Rattle.bd_typer.specs.Repeats.{no_texts, with_names, repeated, fresh}
use Rattle.bd_typer.proofs.LeastFault.{least-three}
use Rattle.bd_typer.proofs.declarations.test_machine.Goals as goal

pub returns : goal.returns
returns c =
    let ast = c.args.ast.now in
    let items = map item_view ast.items in
    let twice = rw (c.new.ensures, c.as_slice-items.ensures) at c.in_ok-twice.ensures.repeated in
    let again = rw (c.new-nexts.ensures, c.as_slice-items.ensures) at c.in_ok-again.ensures.repeated in
    let nexts = rw (c.new-nexts.ensures, c.as_slice-items.ensures) at c.in_ok-again.ensures.set in
    let without = rw (nexts, c.as_slice-items.ensures) at c.in_ok-without.ensures.fresh in
    let told = rw (c.first_offset.ensures, twice, again, without, c.counts.ensures) at c.refuse.ensures in
    rw (least-three DeclaredTwice MissingOrTwice (offsets (repeated no_texts (filter_map declared_name items))) (offsets (repeated no_texts (filter_map next_name items))) (offsets (fresh (with_names no_texts (filter_map next_name items)) (filter_map entry_name items))) (count_faults ast.kind ast.offset items)) told
