-- The faults of a text, by the count of parentheses outside comments. The codes are this project's
-- own.
use Rattle.std.specs.Prelude.{◌≡◌, ℕ, ◌+◌, ◌<◌, ◌≤◌, ◌==◌, ◌⊎◌, List, length, take, count_by, slice_index}
use Rattle.bd_text.specs.Layout.{IsAllowed, without_comments, read_at}
use Rattle.bd_text.specs.declared.code.Code.{Code}
use Rattle.bd_text.specs.declared.code.Code.TheVariants.{ByteNotAllowed, Unbalanced, TooDeep}
use Rattle.bd_text.specs.declared.fault.TextFault.{TextFault}
use Rattle.bd_text.specs.declared.fault.TextFault.TheVariants.{Bad, Memory}

-- how many ( stand before an offset, outside comments
abbrev pub opened_before : List ℕ → ℕ → ℕ
opened_before source o = count_by (λ b. b == 40) (take o (without_comments source))

-- how many ) stand before an offset, outside comments
abbrev pub closed_before : List ℕ → ℕ → ℕ
closed_before source o = count_by (λ b. b == 41) (take o (without_comments source))

-- so many lists are open before an offset: the number of ( less the number of )
abbrev pub HasDepth : List ℕ → ℕ → ℕ → Type 0
HasDepth source o depth = opened_before source o ≡ closed_before source o + depth

-- a byte that may not stand in a text, in a comment neither
abbrev pub IsBadByte : List ℕ → ℕ → Type 0
IsBadByte source o = (o < length source) × (¬ IsAllowed (slice_index source o))

-- a ) with no list open, or the end of the text with a list open
abbrev pub IsUnbalanced : List ℕ → ℕ → Type 0
IsUnbalanced source o =
    ((read_at source o ≡ 41) × HasDepth source o 0)
    ⊎ ((o ≡ length source) × (closed_before source o < opened_before source o))

-- a ( that would be the 201st list open
abbrev pub IsTooDeep : List ℕ → ℕ → Type 0
IsTooDeep source o = (read_at source o ≡ 40) × HasDepth source o 200

-- the text has the fault at the offset
abbrev pub IsFault : List ℕ → ℕ → Code → Type 0
IsFault source o ByteNotAllowed = IsBadByte source o
IsFault source o Unbalanced = IsUnbalanced source o
IsFault source o TooDeep = IsTooDeep source o
IsFault source o _ = ⊥

abbrev pub HasNoFault : List ℕ → Type 0
HasNoFault source = (o : ℕ) (code : Code) → ¬ IsFault source o code

-- the fault is there, and none stands before it
abbrev pub IsFirstFault : List ℕ → ℕ → Code → Type 0
IsFirstFault source o code =
    IsFault source o code × ((p : ℕ) (other : Code) → IsFault source p other → o ≤ p)

-- what holds of the offset and the code of a fault other than out of memory
abbrev pub OnBad : TextFault → (ℕ → Code → Type 0) → Type 0
OnBad (Bad offset code) P = P offset code
OnBad Memory P = Unit {0}
