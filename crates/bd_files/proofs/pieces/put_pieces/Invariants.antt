-- So far the first pieces were put; if the rest is put so from here, all were from the beginning.
use Rattle.std.proofs.Common.{◌≤◌, take, drop, map}
use Rattle.std.specs.List.{flat_map}
use Rattle.bd_files.specs.Devices.{Appends}
use Rattle.bd_files.specs.Pieces.{PutsEach}
use Rattle.bd_files.proofs.pieces.put_pieces.Given as goal

abbrev pub invariant-loop-piece : goal.invariant-loop-piece
invariant-loop-piece g l = record {
  written : Appends (g.S.Sink.written l.initial.sink) (g.S.Sink.written l.sink) (flat_map (λ p. p.now) (take l.piece-index l.pieces));
  each : (after : g.row.S.Denot) → PutsEach g.S.Sink.written g.S.Sink.faults g.S.Sink.puts l.sink after (map (λ p. p.now) (drop l.piece-index l.pieces))
      → PutsEach g.S.Sink.written g.S.Sink.faults g.S.Sink.puts l.initial.sink after (map (λ p. p.now) l.pieces);
  counted : g.S.Sink.faults l.initial.sink ≤ g.S.Sink.faults l.sink;
}
