use Rattle.bd_typer.specs.inner.Roles.{count_offset}
use Rattle.bd_typer.proofs.GivenOnce.{given_once, not_given}
use Rattle.bd_typer.proofs.declarations.not_once.Goals as goal

pub returns-then-counted : goal.returns-then-counted
returns-then-counted c =
    given_once c.args.tree (count_offset c.args.once) c.args.items.now c.loop-item.item-index c.loop-item.counted c.loop-item-test.false c.loop-item.invariant c.if-counted.true

pub returns-else-counted : goal.returns-else-counted
returns-else-counted c =
    not_given c.args.tree (count_offset c.args.once) c.args.items.now c.loop-item.item-index c.loop-item.counted c.loop-item-test.false c.loop-item.invariant c.if-counted.false
