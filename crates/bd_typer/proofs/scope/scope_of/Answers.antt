use Rattle.std.proofs.Common.{arith}
use Rattle.bd_syntax.specs.Forms.{item_view}
use Rattle.bd_typer.specs.inner.Held.{meanings, scope_view}
use Rattle.bd_typer.proofs.Steps.{scope_more, scope_counts}
use Rattle.bd_typer.proofs.scope.scope_of.Goals as goal

pub loop-item-preserved : goal.loop-item-preserved
loop-item-preserved c =
    let old = scope_view c.loop-item.scope c.loop-item.symbols in
    let new = scope_view c.item.new.self c.item.new.symbols in
    let n = scope_counts (meanings c.args.others.now) old new (item_view c.item-item.result) c.in_ok-item.ensures in
    record {
      scope = scope_more (meanings c.args.others.now) old new c.args.items.now c.loop-item.item-index c.item-item.result _ c.loop-item-test.true c.item-item.is c.in_ok-item.ensures c.loop-item.invariant.scope;
      entries = omega (arith, n.entries, c.loop-item.invariant.entries);
      inputs = omega (arith, n.inputs, c.loop-item.invariant.inputs);
      symbols = omega (arith, n.symbols, c.loop-item.invariant.symbols);
    }
