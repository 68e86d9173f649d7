use Rattle.bd_app.proofs.answer.Ended.put_line.Goals as goal

pub returns-in-Usage-clause-line : goal.returns-in-Usage-clause-line
returns-in-Usage-clause-line g c = rw c.in-Usage.is c.put_text.ensures.text

pub returns-in-Usage-clause-pieces : goal.returns-in-Usage-clause-pieces
returns-in-Usage-clause-pieces g c = rw c.in-Usage.is c.put_text.ensures.pieces

pub returns-in-Memory-clause-line : goal.returns-in-Memory-clause-line
returns-in-Memory-clause-line g c = rw c.in-Memory.is c.put_text-in-Memory.ensures.text

pub returns-in-Memory-clause-pieces : goal.returns-in-Memory-clause-pieces
returns-in-Memory-clause-pieces g c = rw c.in-Memory.is c.put_text-in-Memory.ensures.pieces
