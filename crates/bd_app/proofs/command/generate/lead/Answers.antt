use Rattle.std.proofs.Common.{append_assoc}
use Rattle.bd_app.proofs.command.generate.lead.Goals as goal

pub returns : goal.returns
returns c = simp append_assoc (rw c.new-text.ensures.bytes at c.in_ok-write.ensures.bytes)
