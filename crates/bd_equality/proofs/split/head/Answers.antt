use Rattle.std.proofs.Common.{Some, ap, sym, ◌∙◌}
use Rattle.bd_equality.specs.Made.{node_head}
use Rattle.bd_equality.proofs.Splits.{no_head}
use Rattle.bd_equality.proofs.split.head.Goals as goal

pub returns-in-Ite : goal.returns-in-Ite
returns-in-Ite c = sym (ap node_head (c.node.ensures.node ∙ ap Some c.in-Ite.is))

pub returns-in_default : goal.returns-in_default
returns-in_default c = sym (ap node_head c.node.ensures.node ∙ no_head c.node.result.now c.in_default.not-Ite)
