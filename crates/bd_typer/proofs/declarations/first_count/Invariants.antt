use Rattle.std.proofs.Common.{◌≡◌, map, drop}
use Rattle.std.specs.List.{filter_map}
use Rattle.bd_syntax.specs.Forms.{item_view}
use Rattle.bd_typer.specs.Joined.{first_count}
use Rattle.bd_typer.specs.inner.Roles.{item_count}
use Rattle.bd_typer.proofs.declarations.first_count.Given as goal

abbrev pub invariant-loop-item : goal.invariant-loop-item
invariant-loop-item l =
    first_count (filter_map (item_count l.once) (map item_view (drop l.item-index l.items)))
    ≡ first_count (filter_map (item_count l.once) (map item_view l.items))
