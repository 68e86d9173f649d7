use Rattle.bd_app.proofs.command.bounded.push_words.Goals as goal

pub returns-in-Broken : goal.returns-in-Broken
returns-in-Broken c = rw c.in-Broken.is c.write-in-Broken.ensures.bytes
