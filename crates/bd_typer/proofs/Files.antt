-- Faults with their file.
use Rattle.std.proofs.Common.{◌≡◌, ℕ, Result, Ok, Err, refl, ap, ◌∙◌, subst}
use Rattle.std.specs.Prelude.{IfOk}
use Rattle.bd_text.specs.Faults.{OnBad}
use Rattle.bd_text.specs.declared.code.Code.{Code}
use Rattle.bd_text.specs.declared.fault.TextFault.{TextFault}
use Rattle.bd_text.specs.declared.fault.TextFault.TheVariants as texts
use Rattle.bd_syntax.specs.Reading.{Fault, Gives}
use Rattle.bd_typer.specs.declared.fault.Text.{Text}
use Rattle.bd_typer.specs.declared.fault.TypeFault.{TypeFault}
use Rattle.bd_typer.specs.declared.fault.TypeFault.TheVariants as faults
use Rattle.bd_typer.specs.Faults.{◌>>=◌, FileFault, in_file, FailsIn, GivesIn}
use Rattle.bd_typer.specs.inner.Located.{located, text_located, OnText}

-- a step on a file gives what its definition gives
pub located_gives : {A B : Type 0} (view : A → B) (file : Text) (step : Result A TextFault) (reading : Result B Fault) → Gives view step reading → GivesIn view (located file step) (in_file file reading)
located_gives view file (Ok x) reading h = rw h refl
located_gives view file (Err texts.Memory) reading h = tt
located_gives view file (Err (texts.Bad offset code)) reading h = rw h refl

-- what holds of what a step gives
pub located_holds : {A : Type 0} (P : A → Type 0) (file : Text) (step : Result A TextFault) → IfOk step P → IfOk (located file step) P
located_holds P file (Ok x) h = h
located_holds P file (Err texts.Memory) h = tt
located_holds P file (Err (texts.Bad offset code)) h = tt

-- the definition goes on where the step does
pub given_is : {A B : Type 0} (view : A → B) (r : Result A TypeFault) (x : A) (given : Result B FileFault) → GivesIn view r given → r ≡ Ok x → given ≡ Ok (view x)
given_is view (Ok y) x given h e = let same : y ≡ x = cc in h ∙ ap (λ z. Ok (view z)) same
given_is view (Err fault) x given h e = absurd (cc)

pub fails_then : {B C : Type 0} (fault : TypeFault) (given : Result B FileFault) (f : B → Result C FileFault) → FailsIn fault given → FailsIn fault (given >>= f)
fails_then (faults.Bad file offset code) given f h = rw h refl
fails_then faults.Memory given f h = tt

-- the first fault is that of all
pub given_fails : {A B C : Type 0} (view : A → B) (r : Result A TypeFault) (fault : TypeFault) (given : Result B FileFault) (f : B → Result C FileFault) → GivesIn view r given → r ≡ Err fault → FailsIn fault (given >>= f)
given_fails view (Ok y) fault given f h e = absurd (cc)
given_fails view (Err other) fault given f h e = let same : other ≡ fault = cc in subst (λ t. FailsIn t (given >>= f)) same (fails_then other given f h)

-- a text has a fault
pub text_fault : (file : Text) (fault : TextFault) (P : ℕ → Code → Type 0) → OnBad fault P → OnText file (text_located file fault) P
text_fault file texts.Memory P h = tt
text_fault file (texts.Bad offset code) P h = (refl, h)
