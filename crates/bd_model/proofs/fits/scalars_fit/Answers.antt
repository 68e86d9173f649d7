use Rattle.std.proofs.lemmas.Bool.{false≢true}
use Rattle.std.proofs.Common.{◌≡◌}
use Rattle.bd_model.specs.Fits.{scalar_sort}
use Rattle.bd_model.specs.declared.design.Port.{Port}
use Rattle.std.proofs.Common.{sym}
use Rattle.std.proofs.lemmas.Slice.Zip.{AllZip-long}
use Rattle.bd_model.proofs.fits.scalars_fit.Goals as goal

pub returns-then-ports-scalars : goal.returns-then-ports-scalars
returns-then-ports-scalars c = (λ t. absurd (false≢true t), λ h. absurd (c.if-ports-scalars.true (sym (AllZip-long (λ (p : Port) x. scalar_sort x ≡ p.sort) _ _ h))))
