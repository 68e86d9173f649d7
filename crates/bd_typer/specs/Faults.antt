-- Which of several faults counts: the one at the least offset, and of those there the one with the least
-- code. The language and its codes are this project's own.
use Rattle.std.specs.Prelude.{◌≡◌, ℕ, Bool, ◌&&◌, ◌||◌, ◌==◌, List, [], ◌∷◌, map, drop, Option, Some, None, Result, Ok, Err, nat_lt, nat_le, if◌then◌else◌}
use Rattle.bd_text.specs.CodeText.{code_name}
use Rattle.bd_text.specs.declared.code.Code.{Code}
use Rattle.bd_syntax.specs.Reading.{Fault, number_of}
use Rattle.bd_typer.specs.declared.fault.Text.{Text}
use Rattle.bd_typer.specs.declared.fault.TypeFault.{TypeFault}
use Rattle.bd_typer.specs.declared.fault.TypeFault.TheVariants as faults

-- the first fault counts
infixl 10 ◌>>=◌
abbrev pub ◌>>=◌ : {A B E : Type 0} → Result A E → (A → Result B E) → Result B E
(Ok x) >>= f = f x
(Err e) >>= f = Err e

abbrev pub fault : Code → ℕ → Fault
fault code offset = record { offset = offset; code = code }

-- faults of one code
abbrev pub faults_at : Code → List ℕ → List Fault
faults_at code offsets = map (fault code) offsets

-- codes by the number in their names, as E07
abbrev pub code_number : Code → ℕ
code_number code = number_of (drop 1 (code_name code))

abbrev pub is_before : Fault → Fault → Bool
is_before a b =
    nat_lt a.offset b.offset
    || ((a.offset == b.offset) && nat_le (code_number a.code) (code_number b.code))

-- the one of two that counts
abbrev pub first_of : Option Fault → Option Fault → Option Fault
first_of None b = b
first_of (Some a) None = Some a
first_of (Some a) (Some b) = if is_before a b then Some a else Some b

-- the one of a set that counts
abbrev pub least : List Fault → Option Fault
least [] = None
least (a ∷ faults) = first_of (Some a) (least faults)

-- a set of faults refuses a file, unless it has none
abbrev pub refused_by : Option Fault → Result (Unit {0}) Fault
refused_by None = Ok (tt {0})
refused_by (Some a) = Err a

abbrev pub without_faults : List Fault → Result (Unit {0}) Fault
without_faults faults = refused_by (least faults)

-- a fault and its file
pub record FileFault : Type 0 where
  pub file : Text
  pub offset : ℕ
  pub code : Code

abbrev pub in_file : {A : Type 0} → Text → Result A Fault → Result A FileFault
in_file file (Ok x) = Ok x
in_file file (Err a) = Err (record { file = file; offset = a.offset; code = a.code })

-- What a function returned, as its view shows it, is what the definition gives, unless memory ran out.
abbrev pub FailsIn : {B : Type 0} → TypeFault → Result B FileFault → Type 0
FailsIn (faults.Bad file offset code) given =
    given ≡ Err (record { file = file; offset = offset; code = code })
FailsIn faults.Memory given = Unit {0}

abbrev pub GivesIn : {A B : Type 0} → (A → B) → Result A TypeFault → Result B FileFault → Type 0
GivesIn view (Ok x) given = given ≡ Ok (view x)
GivesIn view (Err a) given = FailsIn a given
