use Rattle.std.proofs.Common.{sym}
use Rattle.std.proofs.lemmas.Bool.{false≢true}
use Rattle.std.proofs.lemmas.Slice.Zip.{AllZip-long}
use Rattle.bd_shrink.specs.inner.Found.{IsSameScalar}
use Rattle.bd_shrink.proofs.apart.are_same.Goals as goal

pub returns-then-first-second : goal.returns-then-first-second
returns-then-first-second c = (λ t. absurd (false≢true t), λ h. absurd (c.if-first-second.true (sym (AllZip-long IsSameScalar _ _ h))))
