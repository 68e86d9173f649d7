use Rattle.std.specs.Iterator.Adapters.{zip_first, zip_second}
use Rattle.std.specs.Slice.Iter.{iter_rest}
use Rattle.bd_model.specs.Fits.{TableFits}
use Rattle.bd_model.proofs.Pairs.{IsLeft}
use Rattle.bd_model.proofs.fits.tables_fit.Given as goal

abbrev pub invariant-loop-symbol : goal.invariant-loop-symbol
invariant-loop-symbol l =
    IsLeft TableFits l.symbols (iter_rest (zip_first l.symbol-iterator)) l.tables (iter_rest (zip_second l.symbol-iterator))
