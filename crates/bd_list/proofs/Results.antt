-- What holds of a result, where it is one.
use Rattle.std.proofs.Common.{Result, Ok, Err, IfOk}

-- what follows of what holds
pub if_ok : {X E : Type 0} → (P Q : X → Type 0) (r : Result X E) → IfOk r P → ((x : X) → P x → Q x) → IfOk r Q
if_ok P Q (Ok x) h f = f x h
if_ok P Q (Err e) h f = tt
