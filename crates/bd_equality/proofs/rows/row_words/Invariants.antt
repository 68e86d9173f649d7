use Rattle.std.proofs.Common.{◌≡◌, length, option_copied}
use Rattle.bd_equality.specs.inner.Rows.{AreTails}
use Rattle.bd_equality.proofs.rows.row_words.Given as goal

abbrev pub invariant-loop-index : goal.invariant-loop-index
invariant-loop-index l = record {
  count : length l.tails.items ≡ l.index;
  tails : AreTails l.flat.graph l.flat.syms (option_copied l.fn.marked) l.tails.items;
}
