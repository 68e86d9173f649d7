use Rattle.std.proofs.Common.{◌≡◌, ◌++◌, map, drop}
use Rattle.bd_syntax.specs.Forms.{item_view}
use Rattle.bd_show.specs.LetNames.{let_names, texts_of}
use Rattle.bd_show.proofs.names.lets_of.Given as goal

abbrev pub invariant-loop-item : goal.invariant-loop-item
invariant-loop-item l =
    texts_of l.names.items ++ let_names (map item_view (drop l.item-index l.items)) ≡ let_names (map item_view l.items)
