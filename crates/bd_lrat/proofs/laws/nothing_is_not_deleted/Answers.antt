use Rattle.std.proofs.Common.{refl}
use Rattle.bd_lrat.proofs.laws.nothing_is_not_deleted.Goals as goal

pub returns : goal.returns
returns c db added id lines so = so.0.some refl
