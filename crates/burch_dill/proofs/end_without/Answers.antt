use Rattle.std.proofs.Common.{subst}
use Rattle.bd_files.specs.Devices.{PutsOrFaults}
use Rattle.bd_files.specs.Pieces.{PutsInPieces}
use Rattle.bd_app.specs.Answer.{fault_line_of}
use Rattle.bd_app.specs.Pieces.{line_pieces_of}
use Rattle.burch_dill.proofs.end_without.Goals as goal

pub returns-clause-line : goal.returns-clause-line
returns-clause-line g c =
    subst (λ ended. PutsOrFaults g.E.Sink.written g.E.Sink.faults c.args.err.now c.put_line.new.err (fault_line_of ended))
    c.ended_without-ended.ensures c.put_line.ensures.line

pub returns-clause-pieces : goal.returns-clause-pieces
returns-clause-pieces g c =
    subst (λ ended. PutsInPieces g.E.Sink.written g.E.Sink.faults g.E.Sink.puts c.args.err.now c.put_line.new.err (fault_line_of ended) (line_pieces_of ended))
    c.ended_without-ended.ensures c.put_line.ensures.pieces
