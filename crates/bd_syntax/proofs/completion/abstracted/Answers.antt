use Rattle.bd_syntax.proofs.Completions.{abstracted-malformed}
use Rattle.bd_syntax.proofs.completion.abstracted.Goals as goal

pub returns-then-parts-ne2 : goal.returns-then-parts-ne2
returns-then-parts-ne2 c = rw c.bad.ensures (abstracted-malformed c.args.offset c.args.parts.now c.if-parts-ne2.true)
