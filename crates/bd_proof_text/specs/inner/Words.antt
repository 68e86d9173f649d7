-- What is kept of tokens as they are read.
use Rattle.std.specs.Prelude.{◌≡◌, ◌<◌, ℕ, List, [], ◌∷◌, Option, None, Some, Result, Ok, Err}
use Rattle.bd_proof_text.specs.declared.fault.ReadFault.{ReadFault}
use Rattle.bd_proof_text.specs.declared.fault.ReadFault.TheVariants as read
use Rattle.bd_proof_text.specs.declared.fault.Why.TheVariants as why
use Rattle.bd_proof_text.specs.declared.token.Token.{Token}
use Rattle.bd_proof_text.specs.declared.token.Word.{Word}
use Rattle.bd_proof_text.specs.declared.token.Word.TheVariants as word
use Rattle.bd_proof_text.specs.ProofText.{fault}
use Rattle.bd_proof_text.specs.Tokens.{lines}

-- a number with a sign of its own isn't 0
abbrev pub IsCounted : Word → Type 0
IsCounted word.Zero = Unit {0}
IsCounted (word.Positive n) = 0 < n
IsCounted (word.Negative n) = 0 < n
IsCounted word.Delete = Unit {0}
IsCounted word.Other = Unit {0}

-- the lines of what is left of a text, where anything is
abbrev pub lines_left : Option (List ℕ) → List (List ℕ)
lines_left None = []
lines_left (Some bytes) = lines bytes

-- the lines after the line feed that comes first, if one does
abbrev pub after_feed : List ℕ → List (List ℕ)
after_feed [] = []
after_feed (b ∷ bs) = lines bs

-- no token is left, or the first that is left is a fault
abbrev pub IsEnd : Result (Unit {0}) ReadFault → List Token → Type 0
IsEnd (Ok done) ts = ts ≡ []
IsEnd (Err e) [] = ⊥
IsEnd (Err e) (t ∷ ts) = e ≡ read.Bad (fault t.place why.Form)
