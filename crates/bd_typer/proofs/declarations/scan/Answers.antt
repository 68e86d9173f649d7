use Rattle.std.proofs.Common.{◌+◌}
use Rattle.bd_typer.specs.inner.Held.{members}
use Rattle.bd_typer.specs.inner.Roles.{given, role_name}
use Rattle.bd_typer.proofs.RepeatedNames.{names_from, names-step, repeated-more, fresh-more, set-more}
use Rattle.bd_typer.proofs.declarations.scan.Goals as goal

pub loop-item-preserved : goal.loop-item-preserved
loop-item-preserved c =
    let f = role_name c.args.role in
    let items = c.args.items.now in
    let i = c.loop-item.item-index in
    let old = members c.loop-item.texts in
    let new = members c.see.new.texts in
    let e = c.in_ok-scanned.ensures in
    let step = names-step f items i c.item-item.result c.name.result c.loop-item-test.true c.item-item.is c.name.ensures in
    record {
      repeated = repeated-more (given c.name.result) (names_from f items i) (names_from f items (i + 1)) step old new e.set c.loop-item.scanned.repeated c.in_ok-scanned.scanned.repeated _ e.repeated c.loop-item.invariant.repeated;
      fresh = fresh-more (given c.name.result) (names_from f items i) (names_from f items (i + 1)) step old new e.set c.loop-item.scanned.fresh c.in_ok-scanned.scanned.fresh _ e.fresh c.loop-item.invariant.fresh;
      set = set-more (given c.name.result) (names_from f items i) (names_from f items (i + 1)) step old new e.set c.loop-item.scanned.fresh c.loop-item.scanned.fresh c.loop-item.scanned.fresh _ c.loop-item.invariant.set;
    }
