-- The words of a command line: the arguments of commands, and the values that clap reads of them.
-- Source: what `clap` makes of the words of a simple command, as the crate states it.
use Rattle.std.specs.Prelude.{ℕ, ◌^◌, ◌&&◌, Bool, true, false, List, [], ◌∷◌, map, codes, pos, Option, Some, None, nat_lt, if◌then◌else◌, unwrap_or, String, string_bytes}
use Rattle.std.specs.declared.alloc.Global.{Global}
use Rattle.std.specs.Borrow.{Bor}
use Rattle.std.specs.Option.{option_map, option_map_or}
use Rattle.std.specs.Str.{bytes_eq}
use Rattle.std.specs.Str.Parse.{digits_value, without_leading_plus}
use Rattle.clap.specs.Walk.{Row, Rule, first_of, one_of}
use Rattle.clap.specs.Simple.{Shape, new_rule, new_shape}
use Rattle.clap.specs.ValueTests.{is_numeral}
use Rattle.clap.specs.declared.builder.action.ArgAction.TheVariants.{SetTrue}
use Rattle.clap.specs.declared.builder.value_parser.ValueParser.TheVariants.{Signed}
use Rattle.bd_verify.specs.declared.verdict.Mode.{Mode}
use Rattle.bd_verify.specs.declared.verdict.Mode.TheVariants.{Plain, Diverse}

-- the words as bytes
abbrev pub texts_of : List (String Global) → List (List ℕ)
texts_of words = map string_bytes words

-- a name of a file
abbrev pub Name : Type 0
Name = List ℕ

-- the text of a name, where one is given
abbrev pub given : Option (Bor (List ℕ)) → Option Name
given = option_map (λ name. name.now)

-- ---- arguments

-- an argument that must be given
abbrev pub required : List ℕ → Rule
required id = record (new_rule id) { required = true }

-- `--ID VALUE`
abbrev pub option : List ℕ → Rule
option id = record (new_rule id) { long = Some id }

-- `--ID`
abbrev pub flag : List ℕ → Rule
flag id = record (option id) { action = Some SetTrue }

-- whose value is a whole number from `least` to `most`
abbrev pub in_range : ℕ → ℕ → Rule → Rule
in_range least most rule = record rule { parser = Some (Signed (pos least) (pos most)) }

abbrev pub with_default : List ℕ → Rule → Rule
with_default value rule = record rule { defaults = value ∷ [] }

-- --budget N, 200,000 where it isn't given
abbrev pub budget_option : Rule
budget_option = with_default (codes "200000") (in_range 0 1000000000 (option (codes "budget")))

abbrev pub command : List ℕ → List Rule → Shape
command name rules = record (new_shape name) { rules = rules }

-- a pipeline and a specification, and further arguments
abbrev pub machines_command : List ℕ → List Rule → Shape
machines_command name rules =
    command name (required (codes "PIPE") ∷ required (codes "SPEC") ∷ rules)

-- PIPE SPEC TEXT [INV], and further arguments
abbrev pub text_command : List ℕ → List ℕ → List Rule → Shape
text_command name text rules =
    machines_command name (required text ∷ new_rule (codes "INV") ∷ rules)

-- ---- their values

infixl 10 ◌>>=◌
abbrev pub ◌>>=◌ : {A B : Type 0} → Option A → (A → Option B) → Option B
None >>= f = None
(Some x) >>= f = f x

-- the whole number below 2^32 that digits write
abbrev pub digits_number : List ℕ → Option ℕ
digits_number digits =
    if is_numeral digits && nat_lt (digits_value 10 digits) (2 ^ 32)
    then Some (digits_value 10 digits) else None

-- the number given for an argument
abbrev pub number_at : List ℕ → List Row → Option ℕ
number_at id rows = do
  text ← one_of id rows
  digits_number (without_leading_plus text)

-- the text of an argument that clap lets no words be without
abbrev pub text_of_required : List ℕ → List Row → List ℕ
text_of_required id rows = unwrap_or (first_of id rows) []

-- the number of one that has to be given, or has a default
abbrev pub number_of : List ℕ → List Row → ℕ
number_of id rows = unwrap_or (number_at id rows) 0

-- whether the text of a flag is `true`, as it is where the flag is given
abbrev pub flag_at : List ℕ → List Row → Bool
flag_at id rows = option_map_or (λ text. bytes_eq text (codes "true")) (one_of id rows) false

-- positive equality, where the flag asks for it
abbrev pub mode_at : List ℕ → List Row → Mode
mode_at id rows = if flag_at id rows then Diverse else Plain
