use Rattle.std.specs.Iterator.Adapters.{zip_first, zip_second}
use Rattle.std.specs.Slice.Iter.{iter_rest}
use Rattle.std.proofs.Common.{◌≡◌}
use Rattle.bd_model.specs.Fits.{value_sort}
use Rattle.bd_model.specs.declared.design.Entry.{Entry}
use Rattle.bd_model.proofs.Pairs.{IsLeft}
use Rattle.bd_model.proofs.fits.values_fit.Given as goal

abbrev pub invariant-loop-entry : goal.invariant-loop-entry
invariant-loop-entry l =
    IsLeft (λ (e : Entry) v. value_sort v ≡ e.sort) l.entries (iter_rest (zip_first l.entry-iterator)) l.values (iter_rest (zip_second l.entry-iterator))
