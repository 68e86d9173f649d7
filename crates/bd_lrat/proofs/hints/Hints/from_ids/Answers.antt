use Rattle.std.proofs.Common.{ap, ◌∙◌}
use Rattle.bd_lrat.specs.inner.Hints.{hints_from}
use Rattle.bd_lrat.proofs.HintLists.{hints_from-none}
use Rattle.bd_lrat.proofs.hints.Hints.from_ids.Goals as goal

pub returns : goal.returns
returns c = ap (hints_from 0 c.args.ids.items) c.new.ensures.items ∙ hints_from-none 0 c.args.ids.items
