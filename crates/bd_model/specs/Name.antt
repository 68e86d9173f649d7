-- Names: a letter or `_`, then letters, digits, `_`, `.` and `-`, at most 64 bytes, and none of the keywords of
-- expressions.
use Rattle.std.specs.Prelude.{◌≡◌, ◌≤◌, ◌==◌, ℕ, Bool, true, false, ◌&&◌, ◌||◌, List, [], ◌∷◌, length, nat_le, nat_eq, codes}
use Rattle.std.specs.List.{list_all, list_any}
use lib.Pointwise.{pointwise}

abbrev pub is_letter : ℕ → Bool
is_letter b = (nat_le 65 b && nat_le b 90) || (nat_le 97 b && nat_le b 122)

abbrev pub is_digit : ℕ → Bool
is_digit b = nat_le 48 b && nat_le b 57

-- a letter or `_`
abbrev pub begins_name : ℕ → Bool
begins_name b = is_letter b || b == 95

-- also a digit, `.` or `-`
abbrev pub continues_name : ℕ → Bool
continues_name b = ((begins_name b || is_digit b) || b == 46) || b == 45

-- the keywords that expressions are written with
abbrev pub keywords : List (List ℕ)
keywords =
    codes "true" ∷ codes "false" ∷ codes "not" ∷ codes "and" ∷ codes "or" ∷ codes "implies"
    ∷ codes "iff" ∷ codes "ite" ∷ codes "read" ∷ codes "write" ∷ codes "let" ∷ []

abbrev pub spells_name : List ℕ → Bool
spells_name [] = false
spells_name (b ∷ bs) = begins_name b && list_all continues_name bs

pub record IsName (name : List ℕ) : Type 0 where
  pub spelled : spells_name name ≡ true
  pub short : length name ≤ 64
  pub no_keyword : list_any (pointwise nat_eq name) keywords ≡ false
