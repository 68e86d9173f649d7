use Rattle.std.proofs.lemmas.Bool.{false≢true}
use Rattle.std.proofs.Common.{◌≡◌}
use Rattle.bd_model.specs.Fits.{value_sort}
use Rattle.bd_model.specs.declared.design.Entry.{Entry}
use Rattle.std.proofs.Common.{sym}
use Rattle.std.proofs.lemmas.Slice.Zip.{AllZip-long}
use Rattle.bd_model.proofs.fits.values_fit.Goals as goal

pub returns-then-entries-values : goal.returns-then-entries-values
returns-then-entries-values c = (λ t. absurd (false≢true t), λ h. absurd (c.if-entries-values.true (sym (AllZip-long (λ (e : Entry) v. value_sort v ≡ e.sort) _ _ h))))
