-- What holds of what is returned.
use Rattle.std.proofs.Common.{Result, Ok, Err, IfOk}

pub if_all_ok : {X E : Type 0} → (P Q R S : X → Type 0) (r : Result X E) → IfOk r P → IfOk r Q → IfOk r R → ((x : X) → P x → Q x → R x → S x) → IfOk r S
if_all_ok P Q R S (Ok x) h k l f = f x h k l
if_all_ok P Q R S (Err e) h k l f = tt
