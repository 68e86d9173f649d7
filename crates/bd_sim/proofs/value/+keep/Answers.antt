use Rattle.std.proofs.Common.{◌∙◌}
use Rattle.bd_sim.proofs.Chains.{view-grows}
use Rattle.bd_sim.proofs.value.+keep.Goals as goal

pub returns-in_ok-write-in-Write-clause-same : goal.returns-in_ok-write-in-Write-clause-same
returns-in_ok-write-in-Write-clause-same t c =
    view-grows c.keep-in-Write.new.env c.write.new.self (c.in_ok-write-in-Write.ensures.grows) (c.in_ok-keep-in-Write.ensures.whole)
    ∙ c.in_ok-keep-in-Write.ensures.same
