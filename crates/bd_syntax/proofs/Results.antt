-- What holds of the results of reading, step by step.
use Rattle.std.proofs.Common.{◌≡◌, Bool, true, false, cond, Result, Ok, Err, refl}
use Rattle.std.specs.Prelude.{IfOk, ◌&&◌}
use Rattle.bd_syntax.specs.Reading.{Fault, ◌>>=◌, Gives}
use Rattle.bd_text.specs.declared.fault.TextFault.{TextFault}

-- of a step, where what holds of the first value leads to what holds of the second
pub holds_then : {A B : Type 0} (P : A → Type 0) (Q : B → Type 0) (r : Result A Fault) (f : A → Result B Fault) → IfOk r P → ((x : A) → P x → IfOk (f x) Q) → IfOk (r >>= f) Q
holds_then P Q (Ok x) f h g = g x h
holds_then P Q (Err fault) f h g = tt

-- of a value that is read after a test
pub holds_if : {A : Type 0} (P : A → Type 0) (b : Bool) (x : A) (fault : Fault) → (b ≡ true → P x) → IfOk (cond b (Ok x) (Err fault)) P
holds_if P true x fault h = h refl
holds_if P false x fault h = tt

-- of a value that is read after two tests
pub holds_if_both : {A : Type 0} (P : A → Type 0) (a b : Bool) (x : A) (inner outer : Fault) → (a ≡ true → b ≡ true → P x) → IfOk (cond a (cond b (Ok x) (Err inner)) (Err outer)) P
holds_if_both P true true x inner outer h = h refl refl
holds_if_both P true false x inner outer h = tt
holds_if_both P false b x inner outer h = tt

pub anything : {A : Type 0} (r : Result A Fault) → IfOk r (λ _. Unit {0})
anything (Ok x) = tt
anything (Err fault) = tt

-- what was given is what reading gives
pub given_holds : {A B : Type 0} (view : A → B) (P : B → Type 0) (result : Result A TextFault) (reading : Result B Fault) → Gives view result reading → IfOk reading P → IfOk result (λ x. P (view x))
given_holds view P (Ok x) reading gives holds = rw gives at holds
given_holds view P (Err fault) reading gives holds = tt

pub split_and : (a b : Bool) → (a && b) ≡ true → (a ≡ true) × (b ≡ true)
split_and true true e = (refl, refl)
split_and true false e = absurd cc
split_and false b e = absurd cc
