-- A text that was put in pieces, as a caller sees the sink.
use Rattle.std.proofs.Common.{ℕ, List, [], ◌∷◌, Option, ap, inl, inr}
use Rattle.bd_files.specs.Pieces.{PutsEach, PutsInPieces}
use Rattle.bd_app.specs.Program.{SinkSeen, sink_seen}

each_seen : {S : Type 0} (written : S → Option (List ℕ)) (faults : S → ℕ) (puts : S → Option ℕ) (old new : S) (pieces : List (List ℕ)) → PutsEach written faults puts old new pieces
    → PutsEach (λ (sink : SinkSeen). sink.written) (λ (sink : SinkSeen). sink.faults) (λ (sink : SinkSeen). sink.puts) (sink_seen written faults puts old) (sink_seen written faults puts new) pieces
each_seen written faults puts old new [] same = ap (sink_seen written faults puts) same
each_seen written faults puts old new (piece ∷ pieces) (next, one, inl (put, rest)) =
    (sink_seen written faults puts next, one, inl (put, each_seen written faults puts next new pieces rest))
each_seen written faults puts old new (piece ∷ pieces) (next, one, inr (put, rose, same)) =
    (sink_seen written faults puts next, one, inr (put, rose, ap (sink_seen written faults puts) same))

pub in_pieces_seen : {S : Type 0} (written : S → Option (List ℕ)) (faults : S → ℕ) (puts : S → Option ℕ) {old new : S} {bytes : List ℕ} {number : ℕ} → PutsInPieces written faults puts old new bytes number
    → PutsInPieces (λ (sink : SinkSeen). sink.written) (λ (sink : SinkSeen). sink.faults) (λ (sink : SinkSeen). sink.puts) (sink_seen written faults puts old) (sink_seen written faults puts new) bytes number
in_pieces_seen written faults puts {old} {new} put = record {
  pieces = put.pieces;
  whole = put.whole;
  count = put.count;
  each = each_seen written faults puts old new put.pieces put.each;
}
