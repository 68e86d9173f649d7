use Rattle.std.proofs.Common.{append_assoc}
use Rattle.bd_app.proofs.answer.put_parts.Goals as goal

pub returns-clause-pieces : goal.returns-clause-pieces
returns-clause-pieces g c = simp append_assoc c.put_text.ensures.pieces
