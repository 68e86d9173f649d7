use Rattle.std.proofs.Common.{◌≡◌, map, drop}
use Rattle.std.specs.List.{filter_map}
use Rattle.bd_syntax.specs.Forms.{item_view}
use Rattle.bd_typer.specs.Across.{differing_symbol}
use Rattle.bd_typer.specs.inner.Held.{meanings}
use Rattle.bd_typer.specs.inner.Located.{first_offset, least_offset}
use Rattle.bd_typer.proofs.across.first_differing.Given as goal

abbrev pub invariant-loop-item : goal.invariant-loop-item
invariant-loop-item l =
    first_offset l.first (least_offset (filter_map (differing_symbol (meanings l.pipe)) (map item_view (drop l.item-index l.items))))
    ≡ least_offset (filter_map (differing_symbol (meanings l.pipe)) (map item_view l.items))
