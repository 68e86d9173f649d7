-- Lines and tokens of a textual proof, with their places (textual LRAT: Cruz-Filipe, Heule, Hunt, Kaufmann and
-- Schneider-Kamp, 2017; comment lines as in DIMACS CNF). Which numbers are read is this project's own.
use Rattle.std.specs.Prelude.{ℕ, ◌+◌, ◌-◌, ◌*◌, ◌==◌, ◌&&◌, ◌||◌, not, Bool, true, false, List, [], ◌∷◌, length, Option, None, Some, fold, nat_le, if◌then◌else◌}
use Rattle.std.specs.List.{list_all}
use Rattle.bd_proof_text.specs.declared.token.Place.{Place}
use Rattle.bd_proof_text.specs.declared.token.Token.{Token}
use Rattle.bd_proof_text.specs.declared.token.Word.{Word}
use Rattle.bd_proof_text.specs.declared.token.Word.TheVariants as word

-- ---- bytes

-- a line feed ends a line
abbrev pub is_feed : ℕ → Bool
is_feed b = b == 10

-- a space, a tab or a carriage return parts tokens
abbrev pub is_separator : ℕ → Bool
is_separator b = (b == 32 || b == 9) || b == 13

abbrev pub is_digit : ℕ → Bool
is_digit b = nat_le 48 b && nat_le b 57

-- a line of a proof has digits, `-`, `d` and separators alone
abbrev pub is_proof_byte : ℕ → Bool
is_proof_byte b = ((is_digit b || b == 45) || b == 100) || is_separator b

-- ---- pieces

-- the first piece with a byte before it
abbrev pub with_byte : ℕ → List (List ℕ) → List (List ℕ)
with_byte b [] = (b ∷ []) ∷ []
with_byte b (piece ∷ pieces) = (b ∷ piece) ∷ pieces

-- what stands before, between and after the bytes that part: one piece, and one more for each of them
abbrev pub pieces : (ℕ → Bool) → List ℕ → List (List ℕ)
pieces parts [] = [] ∷ []
pieces parts (b ∷ bs) = if parts b then [] ∷ pieces parts bs else with_byte b (pieces parts bs)

-- the lines of a text: each line feed ends one, and the end of the text the last
abbrev pub lines : List ℕ → List (List ℕ)
lines bytes = pieces is_feed bytes

-- a line without a token, or whose first token begins with `c`, is passed over
abbrev pub is_passed : List ℕ → Bool
is_passed [] = true
is_passed (b ∷ bs) = if is_separator b then is_passed bs else b == 99

-- ---- tokens

-- decimal digits without a leading zero, 0 itself aside
abbrev pub is_decimal : List ℕ → Bool
is_decimal [] = false
is_decimal (b ∷ bs) = (is_digit b && list_all is_digit bs) && (not (b == 48) || length bs == 0)

-- the number that digits write
abbrev pub decimal_value : List ℕ → ℕ
decimal_value digits = fold (λ n b. 10 * n + (b - 48)) 0 digits

-- the number that such digits write, where it is at most 2^64 - 1
abbrev pub size_of : List ℕ → Option ℕ
size_of text = if is_decimal text && nat_le (decimal_value text) 18446744073709551615 then Some (decimal_value text) else None

abbrev pub positive_word : Option ℕ → Word
positive_word None = word.Other
positive_word (Some n) = if n == 0 then word.Zero else word.Positive n

-- `-0` is no number
abbrev pub negative_word : Option ℕ → Word
negative_word None = word.Other
negative_word (Some n) = if n == 0 then word.Other else word.Negative n

-- what begins with `d` is `d` alone
abbrev pub delete_word : List ℕ → Word
delete_word [] = word.Delete
delete_word (b ∷ bs) = word.Other

-- what a token says
abbrev pub word_of : List ℕ → Word
word_of [] = word.Other
word_of (b ∷ bs) = if b == 45 then negative_word (size_of bs) else (if b == 100 then delete_word bs else positive_word (size_of (b ∷ bs)))

abbrev pub place : ℕ → ℕ → Place
place line column = record { line = line; column = column }

abbrev pub token : Place → Word → Token
token at said = record { place = at; word = said }

-- the tokens among the pieces of a line, of which the first begins at that place
abbrev pub tokens_of : ℕ → ℕ → List (List ℕ) → List Token
tokens_of line column [] = []
tokens_of line column ([] ∷ ps) = tokens_of line (column + 1) ps
tokens_of line column ((b ∷ bs) ∷ ps) = token (place line column) (word_of (b ∷ bs)) ∷ tokens_of line (column + length (b ∷ bs) + 1) ps

-- the tokens of what is left of a line from that column on
abbrev pub tokens_from : ℕ → ℕ → List ℕ → List Token
tokens_from line column bytes = tokens_of line column (pieces is_separator bytes)
