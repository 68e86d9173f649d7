use Rattle.bd_lrat.proofs.FreshLogs.{fresh_is_short}
use Rattle.bd_lrat.proofs.laws.fresh_logs_are_short.Goals as goal

pub returns : goal.returns
returns c = fresh_is_short
