use Rattle.std.proofs.Common.{◌≡◌, map, drop, false, None}
use Rattle.std.specs.Prelude.{fold}
use Rattle.bd_syntax.specs.Forms.{item_view}
use Rattle.bd_typer.specs.inner.Roles.{count_offset, counted_with}
use Rattle.bd_typer.proofs.declarations.not_once.Given as goal

abbrev pub invariant-loop-item : goal.invariant-loop-item
invariant-loop-item l =
    fold counted_with l.counted (map (count_offset l.once) (map item_view (drop l.item-index l.items)))
    ≡ fold counted_with (record { given = false; again = None }) (map (count_offset l.once) (map item_view l.items))
