use Rattle.std.proofs.Common.{◌≢◌, ℕ, ◌<◌, get_or}
use Rattle.bd_model.specs.Value.{table_of}
use Rattle.bd_model.proofs.fits.defaults_differ.Given as goal

abbrev pub invariant-loop-i : goal.invariant-loop-i
invariant-loop-i l = (i j d : ℕ) → i < j → j < l.i → (table_of l.interp (get_or l.constants i d)).default ≢ (table_of l.interp (get_or l.constants j d)).default
