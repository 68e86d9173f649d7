-- What clap's answer says of the words.
use Rattle.std.proofs.Common.{◌≡◌, ℕ, ◌<◌, ◌^◌, ◌&&◌, Bool, true, false, List, [], ◌∷◌, length, Option, Some, None, refl, sym, ap, ◌∙◌}
use Rattle.std.proofs.lemmas.Bool.{lt-ltb, ltb-true}
use Rattle.std.specs.Prelude.{nat_lt, if◌then◌else◌, codes, option_map, unwrap_or, Result, Ok, Err, Box}
use Rattle.std.specs.Borrow.{Bor}
use Rattle.std.specs.Box.{box_value}
use Rattle.std.specs.List.{list_all}
use Rattle.std.specs.Option.{option_map_or}
use Rattle.std.specs.Str.{bytes_eq}
use Rattle.std.proofs.lemmas.Slice.Eq.{bytes_eq-Decides}
use Rattle.std.specs.Char.{digit_value}
use Rattle.std.specs.Str.Parse.{AllDigits, IsNumeral, ParsesBool, ParsesUnsigned, digits_value, without_leading_plus}
use Rattle.clap.specs.Walk.{Row, Text, rows_of}
use Rattle.clap.specs.Matches.{ReadsOne, found_of}
use Rattle.clap.specs.Simple.{is_simple, subcommand_of, subcommand_rows}
use Rattle.clap.specs.Kinds.{Kinds, IsAmong}
use Rattle.clap.specs.Faults.{fault_of, is_simple_and_free}
use Rattle.clap.specs.ValueTests.{is_numeral}
use Rattle.clap.specs.declared.error.kind.ErrorKind.{ErrorKind}
use Rattle.clap.specs.declared.parser.matches.ArgMatches.{ArgMatches}
use Rattle.clap.specs.declared.parser.matches.ArgMatches.TheViews.{out-SubCommand}
use Rattle.clap.specs.declared.parser.matches.SubCommand.{SubCommand}
use Rattle.clap.proofs.WalkLemmas.{both}
use Rattle.clap.proofs.OnLiterals.{clap_on_literals}
use Rattle.bd_app.specs.Commands.{command_line, commands, if_faultless, question_of, taken}
use Rattle.bd_app.specs.Words.{digits_number, ◌>>=◌}

pub command_line-simple : is_simple command_line ≡ true
unfolding command_line commands clap_on_literals
command_line-simple = refl

pub command_line-free : is_simple_and_free command_line ≡ true
unfolding command_line commands clap_on_literals
command_line-free = refl

-- ---- numbers

numeral : (ds : List ℕ) → AllDigits 10 ds → list_all (λ d. nat_lt (digit_value d) 10) ds ≡ true
numeral [] h = refl
numeral (d ∷ ds) h = rw (lt-ltb (digit_value d) 10 h.0) (numeral ds h.1)

digits : (ds : List ℕ) → list_all (λ d. nat_lt (digit_value d) 10) ds ≡ true → AllDigits 10 ds
digits [] e = tt
digits (d ∷ ds) e = let parts = both _ _ e in (ltb-true _ _ parts.0, digits ds parts.1)

digits_read : (ds : List ℕ) → IsNumeral 10 ds → digits_value 10 ds < 2 ^ 32 → digits_number ds ≡ Some (digits_value 10 ds)
digits_read ds is lt = rw (lt-ltb 0 (length ds) is.0, numeral ds is.1, lt-ltb (digits_value 10 ds) (2 ^ 32) lt) refl

digits_unread : (ds : List ℕ) → ¬ (IsNumeral 10 ds × (digits_value 10 ds < 2 ^ 32)) → digits_number ds ≡ None
digits_unread ds none = by_test (is_numeral ds && nat_lt (digits_value 10 ds) (2 ^ 32)) refl where
  by_test : (b : Bool) → (is_numeral ds && nat_lt (digits_value 10 ds) (2 ^ 32)) ≡ b → digits_number ds ≡ None
  by_test true e =
      let parts = both _ _ e in
      let shape = both _ _ parts.0 in
      absurd (none ((ltb-true _ _ shape.0, digits ds shape.1), ltb-true _ _ parts.1))
  by_test false e = ap (λ (t : Bool). if t then Some (digits_value 10 ds) else None) e

-- a number that was read of a text is the one that its digits write
pub number_read : {E : Type 0} (gives : List ℕ → Result ℕ E → Type 0) → ((bs : List ℕ) (r : Result ℕ E) → gives bs r → ParsesUnsigned 32 10 bs r)
    → (t : List ℕ) (r : Option ℕ) → ReadsOne gives t r → r ≡ digits_number (without_leading_plus t)
number_read gives parses t (Some v) h =
    let read = parses t (Ok v) h in
    ap Some read.1 ∙ sym (digits_read (without_leading_plus t) read.0.0 read.0.1)
number_read gives parses t None h = sym (digits_unread (without_leading_plus t) (parses t (Err h.0) h.1))

pub number_found : (o : Option (List ℕ)) (r : Option ℕ) → (o ≡ None → r ≡ None) → ((t : List ℕ) → o ≡ Some t → r ≡ digits_number (without_leading_plus t))
    → r ≡ (o >>= λ t. digits_number (without_leading_plus t))
number_found None r none some = none refl
number_found (Some t) r none some = some t refl

-- ---- flags

abbrev pub names_true : List ℕ → Bool
names_true text = bytes_eq text (codes "true")

-- a truth value that was read of a text is whether the text is `true`
flag_read : (E : Type 0) (t : List ℕ) (r : Option Bool) → ReadsOne (ParsesBool {E = E}) t r → unwrap_or r false ≡ names_true t
flag_read E t (Some true) h = sym (ap names_true h)
flag_read E t (Some false) h = sym (ap names_true h)
flag_read E t None h = by_test (names_true t) refl where
  by_test : (b : Bool) → names_true t ≡ b → false ≡ names_true t
  by_test true e = absurd (h.1.0 ((bytes_eq-Decides t (codes "true")).0 e))
  by_test false e = sym e

pub flag_found : (E : Type 0) (o : Option (List ℕ)) (r : Option Bool) → (o ≡ None → r ≡ None) → ((t : List ℕ) → o ≡ Some t → ReadsOne (ParsesBool {E = E}) t r)
    → unwrap_or r false ≡ option_map_or names_true o false
flag_found E None r none some = ap (λ (x : Option Bool). unwrap_or x false) (none refl)
flag_found E (Some t) r none some = flag_read E t r (some t refl)

-- ---- words

-- of words in which there is a fault nothing is asked
pub refused_kinds : {Q : Type 0} (k : ErrorKind) (kinds : Kinds) (asked : Option Q) → IsAmong k kinds → if_faultless kinds asked ≡ None
refused_kinds k [] asked among = absurd among
refused_kinds k (x ∷ xs) asked among = refl

-- where clap finds a fault, the words aren't taken
pub refused : (words : List Text) (k : ErrorKind) → IsAmong k (fault_of command_line words) → taken words ≡ None
unfolding taken
refused words k among = refused_kinds k (fault_of command_line words) _ among

-- a subcommand as the definitions see it
abbrev pub seen : Bor Text × Bor ArgMatches → Text × List Row
seen p = (p.0.now, rows_of (found_of p.1.now))

-- the subcommand that was met, from what its parts are
pub rows_met : {Z : Type 0} (o : Option (Box SubCommand Z)) (r : Option (Bor Text × Bor ArgMatches))
    → option_map (λ p. p.0.now) r ≡ option_map (λ b. (out-SubCommand (box_value b)).name.now) o
    → option_map (λ p. rows_of (found_of p.1.now)) r ≡ option_map (λ p. p.1) (subcommand_rows o)
    → subcommand_rows o ≡ option_map seen r
rows_met None None name rows = refl
rows_met None (Some p) name rows = absurd (cc name)
rows_met (Some b) None name rows = absurd (cc name)
rows_met (Some b) (Some p) name rows = cc

-- where clap finds no fault, the words ask what the subcommand asks
pub met : (words : List Text) (r : Option (Text × List Row)) → fault_of command_line words ≡ [] → subcommand_of command_line words ≡ r
    → taken words ≡ (r >>= λ p. question_of p.0 p.1)
unfolding taken
met words r none is = rw (none, is) refl
