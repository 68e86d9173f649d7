use Rattle.std.proofs.Common.{◌≡◌, ◌∙◌, length, refl, sym, subst}
use Rattle.bd_prop.proofs.Gatherings.{AreLow-Extends, IsRenaming, named_item, renaming-more, renaming-start}
use Rattle.bd_prop.proofs.gathering.renamed.Goals as goal

pub loop-item-init : goal.loop-item-init
loop-item-init c = renaming-start c.args.prop.now c.args.entries.now c.args.items.now c.in_ok-new.new.items c.in_ok-new.ensures.items

pub renamed_item-requires-clause-children : goal.renamed_item-requires-clause-children
renamed_item-requires-clause-children c = named_item (length c.args.entries.now) c.args.items.now c.loop-item.item-index _ c.loop-item-test.true c.requires.children

pub renamed_item-requires-clause-low : goal.renamed_item-requires-clause-low
renamed_item-requires-clause-low c = AreLow-Extends c.args.prop.now c.loop-item.prop c.args.entries.now c.loop-item.invariant.grows c.requires.low

pub loop-item-preserved : goal.loop-item-preserved
loop-item-preserved c =
    renaming-more c.args.prop.now c.loop-item.prop c.renamed_item.new.prop c.args.entries.now c.args.items.now c.loop-item.item-index _ _ c.in_ok-item.item c.loop-item.new.items c.push.new.self.items
    c.loop-item-test.true refl c.loop-item.invariant c.renamed_item.ensures.grows c.in_ok-item.ensures.renamed c.in_ok-item.ensures.below c.in_ok-push.ensures.items
