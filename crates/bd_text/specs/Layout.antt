-- The bytes of a text, and what a comment reads as. The format is this project's own: printable
-- ASCII, and comments from a semicolon to the end of the line, as in Lisp.
use Rattle.std.specs.Prelude.{◌≡◌, ◌≢◌, ℕ, ◌≤◌, ◌==◌, ◌⊎◌, List, [], ◌∷◌, if◌then◌else◌, slice_index}

-- tab, line feed, carriage return and the printable ASCII bytes may stand in a text
abbrev pub IsAllowed : ℕ → Type 0
IsAllowed b = (b ≡ 9) ⊎ ((b ≡ 10) ⊎ ((b ≡ 13) ⊎ ((32 ≤ b) × (b ≤ 126))))

-- space, tab, carriage return and line feed separate
abbrev pub IsSeparator : ℕ → Type 0
IsSeparator b = (b ≡ 32) ⊎ ((b ≡ 9) ⊎ ((b ≡ 13) ⊎ (b ≡ 10)))

-- a printable byte other than a space, ( ) and ;
abbrev pub IsAtomByte : ℕ → Type 0
IsAtomByte b = (33 ≤ b) × (b ≤ 126) × (b ≢ 40) × (b ≢ 41) × (b ≢ 59)

-- The text with a space in place of each byte of a comment. A comment begins with ; and ends before
-- the next line feed, or at the end of the text.
abbrev mutual
  pub without_comments : List ℕ → List ℕ
  without_comments [] = []
  without_comments (b ∷ bs) = if b == 59 then 32 ∷ blank_comment bs else b ∷ without_comments bs

  -- the same, from inside a comment on
  pub blank_comment : List ℕ → List ℕ
  blank_comment [] = []
  blank_comment (b ∷ bs) = if b == 10 then 10 ∷ without_comments bs else 32 ∷ blank_comment bs

-- the byte at an offset as it reads: a space inside a comment, and 0 past the end
abbrev pub read_at : List ℕ → ℕ → ℕ
read_at source k = slice_index (without_comments source) k
