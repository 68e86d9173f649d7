use Rattle.std.proofs.Common.{arith}
use Rattle.std.proofs.lemmas.List.{length-map}
use Rattle.bd_model.specs.DesignView.{local_view}
use Rattle.bd_syntax.specs.Forms.{item_view}
use Rattle.bd_typer.specs.inner.Held.{typed_view}
use Rattle.bd_typer.proofs.Steps.{walk_more}
use Rattle.bd_typer.proofs.TypedItems.{item_adds}
use Rattle.bd_typer.proofs.walk.Typed.items.Goals as goal

pub loop-item-preserved : goal.loop-item-preserved
loop-item-preserved c =
    let old = typed_view c.args.outer c.loop-item.self in
    let new = typed_view c.args.outer c.item.new.self in
    let n = item_adds c.args.inputs old new (item_view c.item-item.result) c.in_ok-item.ensures in
    record {
      typed = walk_more c.args.inputs old new c.args.items.now c.loop-item.item-index c.item-item.result _ c.loop-item-test.true c.item-item.is c.in_ok-item.ensures c.loop-item.invariant.typed;
      locals = omega (arith, n.locals, length-map c.loop-item.self.locals local_view, length-map c.item.new.self.locals local_view, c.loop-item.invariant.locals);
    }
