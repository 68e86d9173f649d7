use Rattle.std.proofs.Common.{◌≡◌, ◌≤◌, ◌+◌, length, map, drop}
use Rattle.std.specs.Prelude.{fold}
use Rattle.bd_syntax.specs.Forms.{item_view}
use Rattle.bd_typer.specs.NameMap.{with_item, scope_of}
use Rattle.bd_typer.specs.inner.Held.{meanings, scope_view}
use Rattle.bd_typer.proofs.scope.scope_of.Given as goal

abbrev pub invariant-loop-item : goal.invariant-loop-item
invariant-loop-item l = record {
  scope : fold (with_item (meanings l.others)) (scope_view l.scope l.symbols) (map item_view (drop l.item-index l.items)) ≡ scope_of (meanings l.others) l.initial.symbols (map item_view l.items);
  entries : length l.scope.entries ≤ l.item-index;
  inputs : l.scope.inputs ≤ l.item-index;
  symbols : length l.symbols ≤ length l.initial.symbols + l.item-index;
}
