-- Reasons as they are collected.
use Rattle.std.specs.Prelude.{◌≡◌, ◌++◌, ℕ, List, length, take}
use Rattle.std.specs.List.{All, Contains}
use Rattle.bd_slice.specs.Reasons.{IsClosed, subjects_of}
use Rattle.bd_slice.specs.declared.reason.Reason.{Reason}
use Rattle.bd_slice.specs.declared.subject.Subject.{Subject}

-- values that stood first stand first
abbrev pub IsFront : List Subject → List Subject → Type 0
IsFront old new = (rest : List Subject) × (new ≡ old ++ rest)

-- the first values have reasons; the values that are asked for are there, and those on which the reasons rest
pub record AreCollected (P : Reason → Type 0) (wanted : List Subject) (place : ℕ)
    (subjects : List Subject) (rs : List Reason) :
    Type 0 where
  pub front : subjects_of rs ≡ take place subjects
  pub count : length rs ≡ place
  pub asked : All (Contains subjects) wanted
  pub closed : All (IsClosed subjects) rs
  pub each : All P rs
