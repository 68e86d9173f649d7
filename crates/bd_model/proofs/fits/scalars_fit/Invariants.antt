use Rattle.std.specs.Iterator.Adapters.{zip_first, zip_second}
use Rattle.std.specs.Slice.Iter.{iter_rest}
use Rattle.std.proofs.Common.{◌≡◌}
use Rattle.bd_model.specs.Fits.{scalar_sort}
use Rattle.bd_model.specs.declared.design.Port.{Port}
use Rattle.bd_model.proofs.Pairs.{IsLeft}
use Rattle.bd_model.proofs.fits.scalars_fit.Given as goal

abbrev pub invariant-loop-port : goal.invariant-loop-port
invariant-loop-port l =
    IsLeft (λ (p : Port) x. scalar_sort x ≡ p.sort) l.ports (iter_rest (zip_first l.port-iterator)) l.scalars (iter_rest (zip_second l.port-iterator))
