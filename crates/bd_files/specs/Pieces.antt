-- How a text goes out in several pieces.
-- Source: this project's own interface to the streams of the system that runs it.
use Rattle.std.specs.Prelude.{◌≡◌, ◌⊎◌, ℕ, List, [], ◌∷◌, length, Option}
use Rattle.std.specs.List.{concat}
use Rattle.bd_files.specs.Devices.{Appends, AppendsPrefix, Counts, Rose}

-- each of these pieces was put by one put, in their order, up to the first put that failed; after
-- that one nothing was put
abbrev pub PutsEach : {S : Type 0} → (S → Option (List ℕ)) → (S → ℕ) → (S → Option ℕ)
    → S → S → List (List ℕ) → Type 0
PutsEach {S} written faults puts old new [] = new ≡ old
PutsEach {S} written faults puts old new (piece ∷ pieces) =
    (next : S) × Counts (puts old) (puts next) 1
    × ((Appends (written old) (written next) piece × PutsEach written faults puts next new pieces)
    ⊎ (AppendsPrefix (written old) (written next) piece × Rose (faults old) (faults next)
    × (new ≡ next)))

-- a text was put so, in that many pieces
pub record PutsInPieces {S : Type 0} (written : S → Option (List ℕ)) (faults : S → ℕ)
    (puts : S → Option ℕ) (old new : S) (bytes : List ℕ) (number : ℕ) : Type 0 where
  pub pieces : List (List ℕ)
  pub whole : concat pieces ≡ bytes
  pub count : length pieces ≡ number
  pub each : PutsEach written faults puts old new pieces
