use Rattle.std.proofs.Common.{sym}
use Rattle.std.proofs.lemmas.Bool.{false≢true}
use Rattle.std.proofs.lemmas.Slice.Zip.{AllZip-long}
use Rattle.bd_diagram.specs.Alike.{IsSameDifference}
use Rattle.bd_diagram.proofs.alike.same_differences.Goals as goal

pub returns-then-first-second : goal.returns-then-first-second
returns-then-first-second c = (λ t. absurd (false≢true t), λ h. absurd (c.if-first-second.true (sym (AllZip-long IsSameDifference _ _ h))))
