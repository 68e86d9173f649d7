use Rattle.std.proofs.lemmas.Bool.{false≢true}
use Rattle.bd_model.specs.Fits.{TableFits}
use Rattle.std.proofs.Common.{sym}
use Rattle.std.proofs.lemmas.Slice.Zip.{AllZip-long}
use Rattle.bd_model.proofs.fits.tables_fit.Goals as goal

pub returns-then-symbols-tables : goal.returns-then-symbols-tables
returns-then-symbols-tables c = (λ t. absurd (false≢true t), λ h. absurd (c.if-symbols-tables.true (sym (AllZip-long TableFits _ _ h))))
