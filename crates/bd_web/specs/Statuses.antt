-- The statuses of the page's call that no program ends with: a program's are bytes.
-- Source: this project's own interface to the page that calls it.
use Rattle.std.specs.Prelude.{ℕ}
use Rattle.bd_web.specs.declared.fault.Fault.{Fault}
use Rattle.bd_web.specs.declared.fault.Fault.TheVariants.{NotParts, NotText, CutOff, Memory}

abbrev pub status_of : Fault → ℕ
status_of NotParts = 256
status_of NotText = 257
status_of CutOff = 258
status_of Memory = 259
