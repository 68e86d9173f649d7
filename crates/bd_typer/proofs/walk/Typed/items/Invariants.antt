use Rattle.std.proofs.Common.{◌≡◌, ◌≤◌, ◌+◌, length, map, drop}
use Rattle.bd_syntax.specs.Forms.{item_view}
use Rattle.bd_typer.specs.Walk.{typed_items}
use Rattle.bd_typer.specs.inner.Held.{typed_view}
use Rattle.bd_typer.proofs.walk.Typed.items.Given as goal

abbrev pub invariant-loop-item : goal.invariant-loop-item
invariant-loop-item l = record {
  typed : typed_items l.inputs (typed_view l.outer l.self) (map item_view (drop l.item-index l.items)) ≡ typed_items l.inputs (typed_view l.outer l.initial.self) (map item_view l.items);
  locals : length l.self.locals ≤ length l.initial.self.locals + l.item-index;
}
