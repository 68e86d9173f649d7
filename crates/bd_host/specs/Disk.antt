-- What a disk tells of a file that it opens, and of one that it makes. Source: this project's own interface.
use Rattle.std.specs.Prelude.{◌≡◌, ℕ, List, [], Option, Some, None}
use Rattle.bd_files.specs.Devices.{Held}

-- a file that was opened under this name has to give all that is held there
abbrev pub Opens : Option Held → List ℕ → Option (List ℕ) → Type 0
Opens None name remaining = Unit {0}
Opens (Some held) name remaining = (input : List ℕ) × (held name ≡ Some input) × (remaining ≡ Some input)

-- a file that was made tells what is written to it, where the disk tells what it holds, and is empty
abbrev pub IsEmptied : Option Held → Option (List ℕ) → Type 0
IsEmptied None contents = Unit {0}
IsEmptied (Some held) contents = contents ≡ Some []
